use Rattle.std.proofs.Common.{◌≡◌, ◌<◌, length, Some, ap, sym, ◌∙◌, subst}
use Rattle.std.specs.Prelude.{slice_get}
use Rattle.vale_code.specs.Instructions.{fetch}
use Rattle.vale_turn.specs.View.{IsBody}
use Rattle.vale_turn.proofs.Stretching.{fetched, once_by, place_within, rule_of}
use Rattle.vale_turn.proofs.stretch.once.Goals as goal

pub instr_at-instr-requires : goal.instr_at-instr-requires
instr_at-instr-requires c =
    let code = c.args.code.now in
    let f = c.args.function in
    let func = c.function_of.result.now in
    let is : func.body ≡ c.as_slice-body.result.now = sym c.as_slice-body.ensures in
    subst (λ b. c.args.place.now < length b) is (place_within code f c.requires.safe.0 c.args.place.now c.args.cells.now c.args.left.now func c.function_of.ensures c.requires.safe.2)

pub obey-requires-clause-served : goal.obey-requires-clause-served
obey-requires-clause-served c =
    let code = c.args.code.now in
    let f = c.args.function in
    let func = c.function_of.result.now in
    let is : func.body ≡ c.as_slice-body.result.now = sym c.as_slice-body.ensures in
    let at : fetch code f c.args.place.now ≡ Some c.instr_at-instr.result.now = fetched code f c.args.place.now func c.instr_at-instr.result.now c.function_of.ensures (ap (λ b. slice_get b c.args.place.now) is ∙ c.instr_at-instr.ensures.found) in
    (c.requires.fit.fit c.args.place.now c.instr_at-instr.result.now at).served

pub obey-requires-clause-room : goal.obey-requires-clause-room
obey-requires-clause-room c =
    let code = c.args.code.now in
    let f = c.args.function in
    let func = c.function_of.result.now in
    let is : func.body ≡ c.as_slice-body.result.now = sym c.as_slice-body.ensures in
    let at : fetch code f c.args.place.now ≡ Some c.instr_at-instr.result.now = fetched code f c.args.place.now func c.instr_at-instr.result.now c.function_of.ensures (ap (λ b. slice_get b c.args.place.now) is ∙ c.instr_at-instr.ensures.found) in
    (c.requires.fit.fit c.args.place.now c.instr_at-instr.result.now at).room

pub obey-requires-clause-right : goal.obey-requires-clause-right
obey-requires-clause-right c =
    let code = c.args.code.now in
    let f = c.args.function in
    let func = c.function_of.result.now in
    let is : func.body ≡ c.as_slice-body.result.now = sym c.as_slice-body.ensures in
    rule_of code f c.requires.safe.0 c.args.place.now c.args.cells.now c.args.left.now func c.as_slice-body.result.now c.instr_at-instr.result.now c.function_of.ensures is c.instr_at-instr.ensures.found c.requires.safe.1 c.requires.safe.2

pub returns-clause-step : goal.returns-clause-step
returns-clause-step c = λ s few.
    let code = c.args.code.now in
    let f = c.args.function in
    let func = c.function_of.result.now in
    let is : func.body ≡ c.as_slice-body.result.now = sym c.as_slice-body.ensures in
    let at : fetch code f c.args.place.now ≡ Some c.instr_at-instr.result.now = fetched code f c.args.place.now func c.instr_at-instr.result.now c.function_of.ensures (ap (λ b. slice_get b c.args.place.now) is ∙ c.instr_at-instr.ensures.found) in
    let body : IsBody code f c.as_slice-body.result.now = record { func = func; found = c.function_of.ensures; is = is } in
    once_by code f s c.obey.result c.args.place.now c.args.cells.now c.args.left.now c.obey.new.place c.obey.new.cells c.obey.new.left c.instr_at-instr.result.now at
    (c.obey.ensures.step code f s body few) c.obey.ensures.leaves c.obey.ensures.same
