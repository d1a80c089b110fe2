use Rattle.vale_registers.specs.Passing.{from_base}
use Rattle.vale_registers.specs.Texts.{text_at}
use Rattle.vale_object_cells.specs.Cells.{cells_from}
use Rattle.vale_object_steps.proofs.BirthLaws.{make_found, make_there}
use Rattle.vale_object_steps.proofs.Registers.{cells_many}
use Rattle.vale_object_steps.proofs.births.make.Goals as goal

pub keep_all-requires-clause-there : goal.keep_all-requires-clause-there
keep_all-requires-clause-there g c =
    make_there c.args.to c.args.kind c.args.args.now c.args.heap.now (cells_from c.args.base c.args.texts.now c.args.registers.now) c.requires.right

pub returns-in-Ok-make-clause-step : goal.returns-in-Ok-make-clause-step
returns-in-Ok-make-clause-step g c =
    make_found c.args.to c.args.kind c.args.args.now c.args.heap.now c.make.new.self _ (g.L.Lender.out c.args.lender.now) (g.L.Lender.floors c.args.lender.now)
    (cells_from c.args.base c.args.texts.now c.args.registers.now) (cells_from c.args.base c.args.texts.now c.keep_all.new.registers) (cells_from c.args.base c.args.texts.now c.set_own.new.registers) c.in-Ok.cells c.in-Ok-make.place
    c.in-Ok.ensures c.in-Ok-make.ensures.stands c.in-Ok-make.ensures.made (c.set_own.ensures (from_base c.args.base (text_at c.args.texts.now)))
    (cells_many c.args.base c.args.texts.now c.args.registers.now c.args.to c.requires.room)
