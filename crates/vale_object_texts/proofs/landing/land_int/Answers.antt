use Rattle.std.proofs.Common.{◌<◌, ◌+◌, ℤ, Some, ap, rules, subst, sym, ◌∙◌}
use Rattle.std.specs.Prelude.{Result, slice_set}
use Rattle.std.proofs.lemmas.Int.{to_z-of_z}
use mir.Syntax.{w64}
use Rattle.vale_base.specs.declared.trap.TrapKind.{TrapKind}
use Rattle.vale_text.specs.Steps.{gives_int}
use Rattle.vale_heap.specs.declared.body.Cell.TheVariants.{Int}
use Rattle.vale_turn.specs.declared.stop.Stop.TheVariants as stop
use Rattle.vale_object_cells.specs.Cells.{cells_in}
use Rattle.vale_object_cells.proofs.Holding.{as_many}
use Rattle.vale_object_texts.specs.Texts.{Lands}
use Rattle.vale_object_texts.proofs.TextLaws.{lands_int, lands_trap}
use Rattle.vale_object_texts.proofs.landing.land_int.Goals as goal

pub returns-in-Ok-clause-step : goal.returns-in-Ok-clause-step
returns-in-Ok-clause-step c = λ t.
    let cells = cells_in t c.args.registers.now in
    let new = cells_in t c.set_int.new.registers in
    let many = subst (λ n. c.args.to < n) (sym (as_many t c.args.registers.now)) c.requires.room in
    subst (λ (r : Result ℤ TrapKind). Lands c.args.to c.args.at (λ s. gives_int s r) cells c.args.place.now stop.Going new (c.args.place.now + 1)) (sym c.in-Ok.is)
    (lands_int c.args.to c.args.at cells new c.args.place.now c.in-Ok.number many (c.set_int.ensures t ∙ ap (λ z. slice_set cells c.args.to (Some (Int z))) (to_z-of_z w64 c.in-Ok.number (search rules))))

pub returns-in-Err-clause-step : goal.returns-in-Err-clause-step
returns-in-Err-clause-step c = λ t.
    let cells = cells_in t c.args.registers.now in
    lands_trap c.args.to c.args.at cells cells c.args.place.now c.in-Err.kind (λ s. gives_int s c.args.outcome) c.args.place.now (λ s. ap (gives_int s) c.in-Err.is)
