use Rattle.std.proofs.Common.{refl}
use Rattle.vale_object_cells.proofs.Holding.{shaped}
use Rattle.vale_object_cells.proofs.register.shape_at.Goals as goal

pub returns : goal.returns
returns c = shaped c.args.registers.now c.args.register _ _ c.requires refl
