use Rattle.vale_object_cells.proofs.Carrying.{text_to}
use Rattle.vale_object_cells.proofs.carry.put_text.Goals as goal

pub returns-in-Ok-clause-cells : goal.returns-in-Ok-clause-cells
returns-in-Ok-clause-cells c = text_to c.args.base c.args.to c.args.text c.args.texts.now c.put.new.self c.args.registers.now c.set_text.new.registers c.in-Ok.ensures c.set_text.ensures
