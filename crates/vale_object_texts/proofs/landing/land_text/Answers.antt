use Rattle.std.proofs.Common.{ap, subst}
use Rattle.std.specs.Prelude.{Err, List, Result, ℕ}
use Rattle.vale_base.specs.declared.fault.Fail.{Fail}
use Rattle.vale_base.specs.declared.trap.TrapKind.{TrapKind}
use Rattle.vale_text.specs.Gives.{Gives}
use Rattle.vale_text.specs.Steps.{gives_text}
use Rattle.vale_object_cells.specs.Cells.{cells_from}
use Rattle.vale_object_texts.proofs.TextLaws.{lands_made, lands_trap}
use Rattle.vale_object_texts.proofs.landing.land_text.Goals as goal

pub returns-in-Ok-clause-step : goal.returns-in-Ok-clause-step
returns-in-Ok-clause-step c =
    let cells = cells_from c.args.base c.args.texts.now c.args.registers.now in
    let new = cells_from c.args.base c.take_text.new.texts c.take_text.new.registers in
    lands_made c.args.outcome c.in-Ok.text c.take_text.result c.args.to c.args.at cells new c.args.place.now c.take_text.new.place c.in-Ok.is c.take_text.ensures.step

pub returns-in-Is-clause-step : goal.returns-in-Is-clause-step
returns-in-Is-clause-step c = λ meaning g.
    let cells = cells_from c.args.base c.args.texts.now c.args.registers.now in
    let e = subst (λ (f : Fail TrapKind). Gives (Err f) meaning) c.in-Is.is (subst (λ (o : Result (List ℕ) (Fail TrapKind)). Gives o meaning) c.in-Err.is g) in
    lands_trap c.args.to c.args.at cells cells c.args.place.now c.in-Is.kind (λ s. gives_text s meaning) c.args.place.now (λ s. ap (gives_text s) e)
