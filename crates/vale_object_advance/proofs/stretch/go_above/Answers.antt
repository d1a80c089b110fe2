use Rattle.std.proofs.Common.{◌++◌, drop, sym}
use Rattle.std.proofs.lemmas.List.{drop_at}
use Rattle.vale_object_advance.proofs.Advancing.{went_as}
use Rattle.vale_object_advance.proofs.stretch.go_above.Goals as goal

pub returns-clause-ends : goal.returns-clause-ends
returns-clause-ends g c =
    let a = c.args in
    let s = c.split_at_mut-own in
    let n = c.go.new in
    went_as c.go.result a.code.now a.function (g.L.Lender.out a.lender.now) (g.L.Lender.floors a.lender.now) a.heap.now n.heap a.base a.texts.now n.texts a.place.now a.left.now n.place n.left
    (drop a.base a.registers.now) s.result.1.now (drop a.base (s.result.0.now ++ n.registers)) n.registers (sym s.ensures.back) (drop_at s.result.0.now n.registers a.base s.ensures.front_len) c.go.ensures.ends
