use Rattle.std.proofs.Common.{◌≡◌, ◌<◌, ◌≤◌, length, Some, ap, sym, ◌∙◌, subst, arith}
use Rattle.std.specs.Prelude.{slice_get}
use Rattle.vale_code.specs.Instructions.{fetch}
use Rattle.vale_registers.specs.Cells.{HasRegister}
use Rattle.vale_turn.specs.Served.{register_of}
use Rattle.vale_turn.specs.View.{IsBody, Leads, Scene, config}
use Rattle.vale_turn.proofs.Stretching.{bare, ends_by, fetched, leads_on, less_fuel, place_within, rule_of, safe_on, same_config, step_is, stopped}
use Rattle.vale_turn.proofs.stretch.go.Goals as goal

pub instr_at-instr-requires : goal.instr_at-instr-requires
instr_at-instr-requires c =
    let code = c.args.code.now in
    let f = c.args.function in
    let inv = c.turns.invariant in
    let func = c.function_of.result.now in
    let is : func.body ≡ c.as_slice-body.result.now = sym c.as_slice-body.ensures in
    subst (λ b. c.turns.place < length b) is (place_within code f inv.safe.0 c.turns.place c.turns.cells c.turns.left func c.function_of.ensures inv.safe.2)

pub obey-stop-requires-clause-served : goal.obey-stop-requires-clause-served
obey-stop-requires-clause-served c =
    let code = c.args.code.now in
    let f = c.args.function in
    let inv = c.turns.invariant in
    let func = c.function_of.result.now in
    let is : func.body ≡ c.as_slice-body.result.now = sym c.as_slice-body.ensures in
    let at : fetch code f c.turns.place ≡ Some c.instr_at-instr.result.now = fetched code f c.turns.place func c.instr_at-instr.result.now c.function_of.ensures (ap (λ b. slice_get b c.turns.place) is ∙ c.instr_at-instr.ensures.found) in
    (c.requires.fit.fit c.turns.place c.instr_at-instr.result.now at).served

pub obey-stop-requires-clause-room : goal.obey-stop-requires-clause-room
obey-stop-requires-clause-room c =
    let code = c.args.code.now in
    let f = c.args.function in
    let inv = c.turns.invariant in
    let func = c.function_of.result.now in
    let is : func.body ≡ c.as_slice-body.result.now = sym c.as_slice-body.ensures in
    let at : fetch code f c.turns.place ≡ Some c.instr_at-instr.result.now = fetched code f c.turns.place func c.instr_at-instr.result.now c.function_of.ensures (ap (λ b. slice_get b c.turns.place) is ∙ c.instr_at-instr.ensures.found) in
    subst (λ n. HasRegister (register_of c.instr_at-instr.result.now) n) (sym inv.count) (c.requires.fit.fit c.turns.place c.instr_at-instr.result.now at).room

pub obey-stop-requires-clause-right : goal.obey-stop-requires-clause-right
obey-stop-requires-clause-right c =
    let code = c.args.code.now in
    let f = c.args.function in
    let inv = c.turns.invariant in
    let func = c.function_of.result.now in
    let is : func.body ≡ c.as_slice-body.result.now = sym c.as_slice-body.ensures in
    rule_of code f inv.safe.0 c.turns.place c.turns.cells c.turns.left func c.as_slice-body.result.now c.instr_at-instr.result.now c.function_of.ensures is c.instr_at-instr.ensures.found inv.safe.1 inv.safe.2

pub turns-smaller : goal.turns-smaller
turns-smaller c =
    let code = c.args.code.now in
    let f = c.args.function in
    let inv = c.turns.invariant in
    let func = c.function_of.result.now in
    let is : func.body ≡ c.as_slice-body.result.now = sym c.as_slice-body.ensures in
    let at : fetch code f c.turns.place ≡ Some c.instr_at-instr.result.now = fetched code f c.turns.place func c.instr_at-instr.result.now c.function_of.ensures (ap (λ b. slice_get b c.turns.place) is ∙ c.instr_at-instr.ensures.found) in
    let body : IsBody code f c.as_slice-body.result.now = record { func = func; found = c.function_of.ensures; is = is } in
    let s = bare c.turns.left in
    less_fuel code (config f s c.turns.place c.turns.cells c.turns.left) (config f s c.obey-stop.new.place c.obey-stop.new.cells c.obey-stop.new.left)
    (step_is code f s c.turns.place c.turns.cells c.turns.left c.instr_at-instr.result.now at ∙ c.in-Going.ensures.step code f s body (omega arith))

pub turns-preserved : goal.turns-preserved
turns-preserved c =
    let code = c.args.code.now in
    let f = c.args.function in
    let inv = c.turns.invariant in
    let func = c.function_of.result.now in
    let is : func.body ≡ c.as_slice-body.result.now = sym c.as_slice-body.ensures in
    let at : fetch code f c.turns.place ≡ Some c.instr_at-instr.result.now = fetched code f c.turns.place func c.instr_at-instr.result.now c.function_of.ensures (ap (λ b. slice_get b c.turns.place) is ∙ c.instr_at-instr.ensures.found) in
    let body : IsBody code f c.as_slice-body.result.now = record { func = func; found = c.function_of.ensures; is = is } in
    let on = λ (s : Scene) (few : c.turns.left ≤ s.given).
    (step_is code f s c.turns.place c.turns.cells c.turns.left c.instr_at-instr.result.now at ∙ c.in-Going.ensures.step code f s body few) in
    record {
      safe = (inv.safe.0, omega (arith, inv.safe.1, c.obey-stop.ensures.ticks), safe_on code (config f inv.safe.0 c.turns.place c.turns.cells c.turns.left) _ (on inv.safe.0 inv.safe.1) inv.safe.2);
      leads = λ s few. leads_on code (config f s c.args.place.now c.args.cells.now c.args.left.now) (config f s c.turns.place c.turns.cells c.turns.left) _ (inv.leads s few) (on s (omega (arith, inv.ticks, few)));
      ticks = omega (arith, inv.ticks, c.obey-stop.ensures.ticks);
      count = c.obey-stop.auto.cells ∙ inv.count;
    }

pub returns-in_default : goal.returns-in_default
returns-in_default c =
    let code = c.args.code.now in
    let f = c.args.function in
    let inv = c.turns.invariant in
    let func = c.function_of.result.now in
    let is : func.body ≡ c.as_slice-body.result.now = sym c.as_slice-body.ensures in
    let at : fetch code f c.turns.place ≡ Some c.instr_at-instr.result.now = fetched code f c.turns.place func c.instr_at-instr.result.now c.function_of.ensures (ap (λ b. slice_get b c.turns.place) is ∙ c.instr_at-instr.ensures.found) in
    let body : IsBody code f c.as_slice-body.result.now = record { func = func; found = c.function_of.ensures; is = is } in
    let same = stopped c.obey-stop.result c.in_default.not-Going c.obey-stop.ensures.same in
    record {
      leads = λ s few. subst (λ d. Leads code (config f s c.args.place.now c.args.cells.now c.args.left.now) d)
          (sym (same_config f s c.obey-stop.new.place c.turns.place c.obey-stop.new.cells c.turns.cells c.obey-stop.new.left c.turns.left same.0 same.1 same.2)) (inv.leads s few);
      ends = λ s few. ends_by code f s c.obey-stop.result c.turns.place c.turns.cells c.turns.left c.obey-stop.new.place c.obey-stop.new.cells c.obey-stop.new.left c.instr_at-instr.result.now
          c.in_default.not-Going at (c.obey-stop.ensures.step code f s body (omega (arith, inv.ticks, few))) c.obey-stop.ensures.leaves same.0 same.1 same.2;
      ticks = omega (arith, inv.ticks, c.obey-stop.ensures.ticks);
    }
