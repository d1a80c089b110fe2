use Rattle.std.proofs.Common.{refl}
use Rattle.vale_registers.proofs.Registers.{shaped}
use Rattle.vale_registers.proofs.cell.shape_at.Goals as goal

pub returns : goal.returns
returns c = shaped c.args.cells.now c.args.register _ _ c.requires refl
