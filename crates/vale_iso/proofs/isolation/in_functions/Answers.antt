use Rattle.std.proofs.Common.{map, refl}
use Rattle.vale_core.specs.View.{view_function}
use Rattle.vale_region_spec.specs.Isolated.{function_faults, functions_faults}
use Rattle.vale_region_spec.proofs.ListLaws.{list_next, list_found}
use Rattle.vale_iso.proofs.isolation.in_functions.Goals as goal

pub loop-function-preserved : goal.loop-function-preserved
loop-function-preserved c =
    list_next (λ fs. functions_faults (map view_function fs)) (λ f. function_faults (view_function f)) (λ f fs. refl)
    c.args.functions.now c.loop-function.function-index c.function-item.result c.function-item.result c.loop-function-test.true c.function-item.is _ c.in_default.ensures c.loop-function.invariant

pub returns-in-Some : goal.returns-in-Some
returns-in-Some c =
    list_found (λ fs. functions_faults (map view_function fs)) (λ f. function_faults (view_function f)) (λ f fs. refl)
    c.args.functions.now c.loop-function.function-index c.function-item.result c.function-item.result c.loop-function-test.true c.function-item.is _ c.in-Some.fault c.in-Some.ensures c.loop-function.invariant
