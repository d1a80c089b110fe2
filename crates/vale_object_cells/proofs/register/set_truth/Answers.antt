use Rattle.std.proofs.Common.{refl}
use Rattle.vale_object_cells.proofs.Holding.{put_register}
use Rattle.vale_object_cells.proofs.register.set_truth.Goals as goal

pub returns : goal.returns
returns c = λ t. put_register t t c.args.registers.now c.args.register _ (λ i n. refl) c.requires
