use Rattle.vale_object_cells.proofs.Holding.{int_within}
use Rattle.vale_object_cells.proofs.register.int_at.Goals as goal

pub bounds-registers-register : goal.bounds-registers-register
bounds-registers-register c = int_within c.args.registers.now c.args.register c.requires
