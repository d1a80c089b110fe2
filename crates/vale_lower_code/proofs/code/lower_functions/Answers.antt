use Rattle.std.proofs.Common.{ap, ◌∙◌, List, ℕ}
use Rattle.vale_core.specs.View.{view_function}
use Rattle.vale_lowering.specs.Lowered.{lowered_function}
use Rattle.vale_lower_expr.specs.Held.{functions_of}
use Rattle.vale_lower_code.proofs.WholeLaws.{funcs_next, funcs_all}
use Rattle.vale_lower_code.proofs.code.lower_functions.Goals as goal

pub loop-function-preserved : goal.loop-function-preserved
loop-function-preserved c = λ p e.
    let fs = functions_of c.args.functions.now in
    funcs_next (lowered_function p c.args.all.now fs) c.loop-function.funcs c.push.new.self c.in_ok-lower_function.field-0 c.as_slice-each.result.now c.loop-function.function-index c.function-item.result
    c.loop-function-test.true c.function-item.is c.in_ok-push.ensures.pushed
    (c.in_ok-lower_function.ensures p e ∙ ap (λ (z : List (List ℕ)). lowered_function p z fs (view_function c.function-item.result.now)) c.in_ok-texts.ensures)
    (c.loop-function.invariant p e)

pub returns : goal.returns
returns c = λ p e.
    funcs_all (lowered_function p c.args.all.now (functions_of c.args.functions.now)) c.loop-function.funcs c.as_slice-each.result.now (functions_of c.args.functions.now) c.loop-function.function-index
    c.loop-function-test.false c.as_slice-each.ensures (c.loop-function.invariant p e)
