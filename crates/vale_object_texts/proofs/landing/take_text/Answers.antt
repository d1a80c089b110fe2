use Rattle.vale_object_cells.specs.Cells.{cells_from}
use Rattle.vale_object_steps.proofs.Registers.{cells_many}
use Rattle.vale_object_texts.proofs.TextLaws.{lands_text}
use Rattle.vale_object_texts.proofs.landing.take_text.Goals as goal

pub returns-in-Ok-clause-step : goal.returns-in-Ok-clause-step
returns-in-Ok-clause-step c = λ at.
    let cells = cells_from c.args.base c.args.texts.now c.args.registers.now in
    let new = cells_from c.args.base c.receive.new.texts c.receive.new.registers in
    lands_text c.args.to at cells new c.args.place.now c.args.text (cells_many c.args.base c.args.texts.now c.args.registers.now c.args.to c.requires.room) c.in-Ok.ensures.cells
