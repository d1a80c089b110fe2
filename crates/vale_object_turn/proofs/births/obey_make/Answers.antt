use Rattle.std.proofs.Common.{◌<◌, arith, refl}
use Rattle.vale_object_cells.specs.Cells.{cells_from}
use Rattle.vale_object_turn.proofs.BirthLaws.{can_make, make_cut, make_obeys}
use Rattle.vale_object_turn.proofs.births.obey_make.Goals as goal

pub make-requires-clause-right : goal.make-requires-clause-right
make-requires-clause-right g c = can_make c.args.heap.now (cells_from c.args.base c.args.texts.now c.args.registers.now) c.args.place.now c.args.left.now c.args.to c.args.kind c.args.args.now c.requires.right

pub returns-then-left-eq0-clause-step : goal.returns-then-left-eq0-clause-step
returns-then-left-eq0-clause-step g c =
    make_cut c.args.heap.now (cells_from c.args.base c.args.texts.now c.args.registers.now) c.args.place.now c.args.left.now c.args.to c.args.kind c.args.args.now (g.L.Lender.out c.args.lender.now) (g.L.Lender.floors c.args.lender.now) c.args.heap.now (cells_from c.args.base c.args.texts.now c.args.registers.now) c.args.place.now c.args.left.now c.if-left-eq0.true

pub returns-in-Ok-clause-step : goal.returns-in-Ok-clause-step
returns-in-Ok-clause-step g c =
    let some : 0 < c.args.left.now = omega (arith, c.if-left-eq0.false) in
    make_obeys c.args.heap.now (cells_from c.args.base c.args.texts.now c.args.registers.now) c.args.place.now c.args.left.now c.args.to c.args.kind c.args.args.now (g.L.Lender.out c.args.lender.now) (g.L.Lender.floors c.args.lender.now) _ _ _ _ some
    c.in-Ok.ensures.step refl refl
