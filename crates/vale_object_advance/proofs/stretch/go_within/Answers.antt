use Rattle.std.proofs.Common.{◌++◌, ◌∙◌, ap, drop, sym, take}
use Rattle.std.proofs.lemmas.List.{take_at}
use Rattle.vale_object_advance.proofs.Advancing.{went_as}
use Rattle.vale_object_advance.proofs.stretch.go_within.Goals as goal

pub returns-clause-ends : goal.returns-clause-ends
returns-clause-ends g c =
    let a = c.args in
    let s = c.split_at_mut-row in
    let n = c.go_above.new in
    went_as c.go_above.result a.code.now a.function (g.L.Lender.out a.lender.now) (g.L.Lender.floors a.lender.now) a.heap.now n.heap a.base a.texts.now n.texts a.place.now a.left.now n.place n.left
    (drop a.base (take a.end a.registers.now)) (drop a.base s.result.0.now) (drop a.base (take a.end (n.registers ++ s.result.1.now))) (drop a.base n.registers)
    (sym (ap (drop a.base) s.ensures.front)) (ap (drop a.base) (take_at n.registers s.result.1.now a.end (c.go_above.auto.registers ∙ s.ensures.front_len))) c.go_above.ensures.ends
