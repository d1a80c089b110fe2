use Rattle.std.proofs.Common.{◌<◌, arith, refl}
use Rattle.vale_object_cells.specs.Cells.{cells_from}
use Rattle.vale_object_turn.proofs.BirthLaws.{can_open, open_cut, open_obeys}
use Rattle.vale_object_turn.proofs.births.obey_open.Goals as goal

pub open-requires-clause-right : goal.open-requires-clause-right
open-requires-clause-right c = can_open c.args.heap.now (cells_from c.args.base c.args.texts.now c.args.registers.now) c.args.place.now c.args.left.now c.args.to.now c.args.from c.requires.right

pub returns-then-left-eq0-clause-step : goal.returns-then-left-eq0-clause-step
returns-then-left-eq0-clause-step c =
    open_cut c.args.heap.now (cells_from c.args.base c.args.texts.now c.args.registers.now) c.args.place.now c.args.left.now c.args.to.now c.args.from c.args.heap.now (cells_from c.args.base c.args.texts.now c.args.registers.now) c.args.place.now c.args.left.now c.if-left-eq0.true

pub returns-in-Ok-clause-step : goal.returns-in-Ok-clause-step
returns-in-Ok-clause-step c =
    let some : 0 < c.args.left.now = omega (arith, c.if-left-eq0.false) in
    open_obeys c.args.heap.now (cells_from c.args.base c.args.texts.now c.args.registers.now) c.args.place.now c.args.left.now c.args.to.now c.args.from _ _ _ _ some c.in-Ok.ensures.step refl refl
