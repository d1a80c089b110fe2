use Rattle.std.proofs.Common.{Some, refl, ap, ◌∙◌, rules}
use Rattle.std.proofs.lemmas.Int.{to_z-of_z}
use mir.Syntax.{w64}
use Rattle.vale_state_spec.specs.World.{Int}
use Rattle.vale_code.specs.Registers.{put}
use Rattle.vale_registers.specs.Cells.{values_in}
use Rattle.vale_registers.proofs.Registers.{put_cell}
use Rattle.vale_registers.proofs.cell.set_int.Goals as goal

pub returns : goal.returns
returns c = λ t.
    put_cell t t c.args.cells.now c.args.register _ (λ i n lt. refl) c.requires
    ∙ ap (λ z. put (values_in t c.args.cells.now) c.args.register (Some (Int z))) (to_z-of_z w64 c.args.number (search rules))
