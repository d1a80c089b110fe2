use Rattle.std.proofs.Common.{map, refl}
use Rattle.std.proofs.lemmas.Result.{err_from_is_err_and}
use Rattle.vale_core.specs.View.{view_function}
use Rattle.vale_rules_spec.specs.Owned.{method_faults}
use Rattle.vale_owner.specs.Functions.{body_faults}
use Rattle.vale_owner.proofs.FunctionLaws.{methods_first, faults_next, faults_stop, faults_done}
use Rattle.vale_owner.proofs.ownership.own_methods.Goals as goal

pub loop-function-preserved : goal.loop-function-preserved
loop-function-preserved c =
    faults_next (λ fs. method_faults (map view_function fs)) (λ f. body_faults (view_function f)) (λ f fs. methods_first (view_function f) (map view_function fs))
    c.args.functions.now c.loop-function.function-index c.function-item.result c.function-item.result c.loop-function-test.true c.function-item.is _ c.in_ok-own_method.ensures c.loop-function.invariant

pub returns-in_err-own_method : goal.returns-in_err-own_method
returns-in_err-own_method c =
    let p = err_from_is_err_and c.from_residual.result c.from_residual.ensures.1 in
    rw (p.1, p.2)
    (faults_stop (λ fs. method_faults (map view_function fs)) (λ f. body_faults (view_function f)) (λ f fs. methods_first (view_function f) (map view_function fs))
    c.args.functions.now c.loop-function.function-index c.function-item.result c.function-item.result c.loop-function-test.true c.function-item.is _ c.in_err-own_method.field-0.0 c.in_err-own_method.ensures c.loop-function.invariant)

pub returns : goal.returns
returns c = faults_done (λ fs. method_faults (map view_function fs)) refl c.args.functions.now c.loop-function.function-index _ c.loop-function-test.false c.loop-function.invariant
