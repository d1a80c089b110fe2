use Rattle.std.proofs.Common.{◌<◌, length, arith}
use Rattle.vale_object_cells.specs.Cells.{cells_in}
use Rattle.vale_object_cells.proofs.Holding.{as_many}
use Rattle.vale_object_steps.proofs.ReferenceLaws.{move_place, moved_to}
use Rattle.vale_object_steps.proofs.references.transfer.Goals as goal

pub move_to-requires-clause-place : goal.move_to-requires-clause-place
move_to-requires-clause-place c =
    let h = c.requires.right in
    let p = move_place c.args.to c.args.from h.1 (cells_in h.0 c.args.registers.now) h.2 in
    (h.0, p.0, p.1)

pub returns : goal.returns
returns c = λ t heap.
    let many = as_many t c.args.registers.now in
    let room : c.args.to < length (cells_in t c.args.registers.now) = omega (arith, c.requires.room, many) in
    moved_to c.args.to c.args.from heap (cells_in t c.args.registers.now) (cells_in t c.move_to.new.registers) room (c.move_to.ensures t)
