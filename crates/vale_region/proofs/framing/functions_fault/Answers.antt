use Rattle.std.proofs.Common.{map, refl}
use Rattle.vale_core.specs.View.{view_function}
use Rattle.vale_region_spec.specs.Regions.{function_faults, functions_faults}
use Rattle.vale_region_rules.specs.Items.{items_of}
use Rattle.vale_region_spec.proofs.ListLaws.{list_next, list_found}
use Rattle.vale_region.proofs.framing.functions_fault.Goals as goal

pub loop-function-preserved : goal.loop-function-preserved
loop-function-preserved c =
    list_next (λ xs. functions_faults (items_of c.args.signatures.now) (map view_function xs)) (λ x. function_faults (items_of c.args.signatures.now) (view_function x)) (λ x xs. refl)
    c.args.functions.now c.loop-function.function-index c.function-item.result c.function-item.result c.loop-function-test.true c.function-item.is _ c.in_default.ensures c.loop-function.invariant

pub returns-in-Some : goal.returns-in-Some
returns-in-Some c =
    list_found (λ xs. functions_faults (items_of c.args.signatures.now) (map view_function xs)) (λ x. function_faults (items_of c.args.signatures.now) (view_function x)) (λ x xs. refl)
    c.args.functions.now c.loop-function.function-index c.function-item.result c.function-item.result c.loop-function-test.true c.function-item.is _ c.in-Some.fault c.in-Some.ensures c.loop-function.invariant
