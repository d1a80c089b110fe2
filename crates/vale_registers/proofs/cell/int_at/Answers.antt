use Rattle.vale_registers.proofs.Registers.{int_within}
use Rattle.vale_registers.proofs.cell.int_at.Goals as goal

pub bounds-cells-register : goal.bounds-cells-register
bounds-cells-register c = int_within c.args.cells.now c.args.register c.requires
