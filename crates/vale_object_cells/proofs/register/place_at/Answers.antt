use Rattle.vale_object_cells.proofs.Holding.{place_is, place_within}
use Rattle.vale_object_cells.proofs.register.place_at.Goals as goal

pub bounds-registers-register : goal.bounds-registers-register
bounds-registers-register c = place_within c.args.registers.now c.args.register c.requires

pub returns : goal.returns
returns c = place_is c.args.registers.now c.args.register _ c.requires
