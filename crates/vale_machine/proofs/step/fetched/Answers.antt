use Rattle.std.proofs.Common.{◌≡◌, ◌<◌, length, sym, ap, ◌∙◌, subst}
use Rattle.std.specs.Prelude.{slice_get}
use Rattle.vale_code.specs.Instructions.{instruction_in}
use Rattle.vale_code.specs.declared.func.Func.{Func}
use Rattle.vale_machine.proofs.Entering.{same_func}
use Rattle.vale_machine.proofs.Running.{index_within, known_function}
use Rattle.vale_machine.proofs.step.fetched.Goals as goal

pub function_of-requires : goal.function_of-requires
function_of-requires c =
    let k = known_function c.args.code.now c.args.function c.args.place c.requires.0 c.requires.1 in
    index_within c.args.code.now.funcs c.args.function k.0 k.1

pub instr_at-requires : goal.instr_at-requires
instr_at-requires c =
    let code = c.args.code.now in
    let k = known_function code c.args.function c.args.place c.requires.0 c.requires.1 in
    let same : k.0 ≡ c.function_of.result.now = same_func _ k.0 _ k.1 c.function_of.ensures in
    let body : k.0.body ≡ c.as_slice-body.result.now = ap (λ (f : Func). f.body) same ∙ sym c.as_slice-body.ensures in
    subst (λ b. c.args.place < length b) body (index_within k.0.body c.args.place c.requires.0 k.2)

pub returns-clause-found : goal.returns-clause-found
returns-clause-found c =
    ap (λ o. instruction_in o c.args.place) c.function_of.ensures
    ∙ ap (λ b. slice_get b c.args.place) (sym c.as_slice-body.ensures) ∙ c.instr_at.ensures.found
