use Rattle.vale_registers.proofs.Registers.{put_cell}
use Rattle.vale_registers.proofs.cell.set_text.Goals as goal

pub returns : goal.returns
returns c = λ t u same. put_cell t u c.args.cells.now c.args.register _ same c.requires
