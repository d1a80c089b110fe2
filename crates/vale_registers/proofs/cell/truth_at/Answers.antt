use Rattle.vale_registers.proofs.Registers.{truth_is, truth_within}
use Rattle.vale_registers.proofs.cell.truth_at.Goals as goal

pub bounds-cells-register : goal.bounds-cells-register
bounds-cells-register c = truth_within c.args.cells.now c.args.register c.requires

pub returns : goal.returns
returns c = truth_is c.args.cells.now c.args.register _ c.requires
