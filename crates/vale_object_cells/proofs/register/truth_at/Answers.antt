use Rattle.vale_object_cells.proofs.Holding.{truth_is, truth_within}
use Rattle.vale_object_cells.proofs.register.truth_at.Goals as goal

pub bounds-registers-register : goal.bounds-registers-register
bounds-registers-register c = truth_within c.args.registers.now c.args.register c.requires

pub returns : goal.returns
returns c = truth_is c.args.registers.now c.args.register _ c.requires
