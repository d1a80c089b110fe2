use Rattle.std.proofs.Common.{Some, refl, ap, ◌∙◌, rules}
use Rattle.std.specs.Prelude.{slice_set}
use Rattle.std.proofs.lemmas.Int.{to_z-of_z}
use mir.Syntax.{w64}
use Rattle.vale_heap.specs.declared.body.Cell.TheVariants.{Int}
use Rattle.vale_object_cells.specs.Cells.{cells_in}
use Rattle.vale_object_cells.proofs.Holding.{put_register}
use Rattle.vale_object_cells.proofs.register.set_int.Goals as goal

pub returns : goal.returns
returns c = λ t.
    put_register t t c.args.registers.now c.args.register _ (λ i n. refl) c.requires
    ∙ ap (λ z. slice_set (cells_in t c.args.registers.now) c.args.register (Some (Int z))) (to_z-of_z w64 c.args.number (search rules))
