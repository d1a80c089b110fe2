use Rattle.vale_object_cells.proofs.Holding.{put_register}
use Rattle.vale_object_cells.proofs.register.set_text.Goals as goal

pub returns : goal.returns
returns c = λ t u same. put_register t u c.args.registers.now c.args.register _ same c.requires
