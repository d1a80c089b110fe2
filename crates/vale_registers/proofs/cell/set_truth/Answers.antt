use Rattle.std.proofs.Common.{refl}
use Rattle.vale_registers.proofs.Registers.{put_cell}
use Rattle.vale_registers.proofs.cell.set_truth.Goals as goal

pub returns : goal.returns
returns c = λ t. put_cell t t c.args.cells.now c.args.register _ (λ i n lt. refl) c.requires
