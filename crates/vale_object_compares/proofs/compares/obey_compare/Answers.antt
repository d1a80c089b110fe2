use Rattle.vale_object_cells.specs.Cells.{cells_from}
use Rattle.vale_object_steps.proofs.Registers.{cells_many}
use Rattle.vale_registers.specs.Passing.{from_base}
use Rattle.vale_registers.specs.Texts.{text_at}
use Rattle.vale_object_compares.proofs.CompareLaws.{compares, is_compared}
use Rattle.vale_object_compares.proofs.compares.obey_compare.Goals as goal

pub verdict-truth-requires-clause-right : goal.verdict-truth-requires-clause-right
verdict-truth-requires-clause-right c =
    let r = c.requires.right in
    is_compared (cells_from c.args.base c.args.texts.now c.args.registers.now) c.args.place.now c.args.to c.args.choice c.args.left c.args.right r.0 r.1 r.2

pub returns-clause-step : goal.returns-clause-step
returns-clause-step c =
    let cells = cells_from c.args.base c.args.texts.now c.args.registers.now in
    compares cells c.args.place.now c.args.to c.args.choice c.args.left c.args.right (cells_from c.args.base c.args.texts.now c.set_truth.new.registers) c.verdict-truth.result c.verdict-truth.ensures (cells_many c.args.base c.args.texts.now c.args.registers.now c.args.to c.requires.room) (c.set_truth.ensures (from_base c.args.base (text_at c.args.texts.now)))
