use Rattle.std.proofs.Common.{◌++◌, ◌∙◌, ap, drop, length, sym, take}
use Rattle.std.proofs.lemmas.List.{take_at}
use Rattle.vale_object_advance.proofs.Advancing.{went_as}
use Rattle.vale_object_advance.proofs.stretch.go_in_row.Goals as goal

pub returns-clause-ends : goal.returns-clause-ends
returns-clause-ends g c =
    let a = c.args in
    let n = c.go_within.new in
    let rest = drop (length n.registers) a.registers.now.items in
    went_as c.go_within.result a.code.now a.function (g.L.Lender.out a.lender.now) (g.L.Lender.floors a.lender.now) a.heap.now n.heap a.base a.texts.now n.texts a.place.now a.left.now n.place n.left
    (drop a.base (take a.end a.registers.now.items)) (drop a.base (take a.end c.deref_mut.result.now)) (drop a.base (take a.end (take a.registers.now.len (n.registers ++ rest)))) (drop a.base (take a.end n.registers))
    (ap (λ rs. drop a.base (take a.end rs)) (sym c.deref_mut.ensures.value)) (ap (λ rs. drop a.base (take a.end rs)) (take_at n.registers rest a.registers.now.len (c.go_within.auto.registers ∙ c.deref_mut.ensures.len))) c.go_within.ensures.ends
