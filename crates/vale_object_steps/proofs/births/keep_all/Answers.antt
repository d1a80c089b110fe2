use Rattle.std.proofs.Common.{◌<◌, arith, length}
use Rattle.vale_object_cells.specs.Cells.{cells_from}
use Rattle.vale_object_steps.proofs.BirthLaws.{keep_here}
use Rattle.vale_object_steps.proofs.Registers.{holds_cell}
use Rattle.vale_object_steps.proofs.births.keep_all.Goals as goal

pub keep-requires-clause-there : goal.keep-requires-clause-there
keep-requires-clause-there c =
    let lt : c.loop-at.at < length c.args.args.now = omega (arith, c.loop-at-test.true) in
    holds_cell c.args.base c.args.texts.now c.loop-at.registers _
    (keep_here c.args.args.now c.loop-at.at c.loop-at.cells.items (cells_from c.args.base c.args.texts.now c.args.registers.now) (cells_from c.args.base c.args.texts.now c.loop-at.registers) lt c.loop-at.invariant.kept c.requires.there)
