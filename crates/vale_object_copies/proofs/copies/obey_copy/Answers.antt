use Rattle.vale_registers.specs.Passing.{from_base}
use Rattle.vale_registers.specs.Texts.{text_at}
use Rattle.vale_object_cells.specs.Cells.{cells_from}
use Rattle.vale_object_steps.proofs.Registers.{cells_many}
use Rattle.vale_object_copies.proofs.CopyLaws.{cell_copied, copies}
use Rattle.vale_object_copies.proofs.copies.obey_copy.Goals as goal

pub duplicate-requires-clause-copied : goal.duplicate-requires-clause-copied
duplicate-requires-clause-copied c =
    let r = c.requires.right in
    let x = cell_copied (cells_from c.args.base c.args.texts.now c.args.registers.now) c.args.place.now c.args.to c.args.from r.0 r.1 r.2 in
    (from_base c.args.base (text_at c.args.texts.now), x.0, x.1, x.2)

pub returns-in-Ok-clause-step : goal.returns-in-Ok-clause-step
returns-in-Ok-clause-step c =
    let r = c.requires.right in
    let cells = cells_from c.args.base c.args.texts.now c.args.registers.now in
    let x = cell_copied cells c.args.place.now c.args.to c.args.from r.0 r.1 r.2 in
    copies cells c.args.place.now c.args.to c.args.from (cells_from c.args.base c.duplicate.new.texts c.duplicate.new.registers) x.0 x.1 x.2 (cells_many c.args.base c.args.texts.now c.args.registers.now c.args.to c.requires.room) c.in-Ok.ensures.cells
