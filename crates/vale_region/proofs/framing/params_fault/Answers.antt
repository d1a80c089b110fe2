use Rattle.std.proofs.Common.{map, refl}
use Rattle.vale_syntax.specs.View.{view_param}
use Rattle.vale_region_spec.specs.Regions.{param_faults, params_faults}
use Rattle.vale_region_spec.proofs.ListLaws.{list_next, list_found}
use Rattle.vale_region.proofs.framing.params_fault.Goals as goal

pub loop-param-preserved : goal.loop-param-preserved
loop-param-preserved c =
    list_next (λ xs. params_faults (map view_param xs)) (λ x. param_faults (view_param x)) (λ x xs. refl)
    c.args.params.now c.loop-param.param-index c.param-item.result c.param-item.result c.loop-param-test.true c.param-item.is _ c.in_default.ensures c.loop-param.invariant

pub returns-in-Some : goal.returns-in-Some
returns-in-Some c =
    list_found (λ xs. params_faults (map view_param xs)) (λ x. param_faults (view_param x)) (λ x xs. refl)
    c.args.params.now c.loop-param.param-index c.param-item.result c.param-item.result c.loop-param-test.true c.param-item.is _ c.in-Some.fault c.in-Some.ensures c.loop-param.invariant
