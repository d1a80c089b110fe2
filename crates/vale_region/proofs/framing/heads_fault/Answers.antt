use Rattle.std.proofs.Common.{map, refl}
use Rattle.vale_syntax.specs.View.{view_head}
use Rattle.vale_region_spec.specs.Regions.{head_faults, heads_faults}
use Rattle.vale_region_spec.proofs.ListLaws.{list_next, list_found}
use Rattle.vale_region.proofs.framing.heads_fault.Goals as goal

pub loop-head-preserved : goal.loop-head-preserved
loop-head-preserved c =
    list_next (λ xs. heads_faults (map view_head xs)) (λ x. head_faults (view_head x)) (λ x xs. refl)
    c.args.heads.now c.loop-head.head-index c.head-item.result c.head-item.result c.loop-head-test.true c.head-item.is _ c.in_default.ensures c.loop-head.invariant

pub returns-in-Some : goal.returns-in-Some
returns-in-Some c =
    list_found (λ xs. heads_faults (map view_head xs)) (λ x. head_faults (view_head x)) (λ x xs. refl)
    c.args.heads.now c.loop-head.head-index c.head-item.result c.head-item.result c.loop-head-test.true c.head-item.is _ c.in-Some.fault c.in-Some.ensures c.loop-head.invariant
