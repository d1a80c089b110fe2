use Rattle.std.proofs.Common.{map, refl}
use Rattle.std.specs.Prelude.{flat_map}
use Rattle.vale_syntax.specs.View.{view_head}
use Rattle.vale_model.specs.Kinds.{head_arrays}
use Rattle.vale_lower_kinds.specs.Held.{kinds_in}
use Rattle.vale_lower_kinds.proofs.AddedLaws.{next}
use Rattle.vale_lower_kinds.proofs.items.add_heads.Goals as goal

pub loop-head-preserved : goal.loop-head-preserved
loop-head-preserved c =
    next (λ z. flat_map head_arrays (map view_head z)) (λ z. head_arrays (view_head z)) (λ x xs. refl) c.args.heads.now c.loop-head.head-index c.head-item.result (kinds_in c.loop-head.kinds) (kinds_in c.add_head.new.kinds) _ c.loop-head-test.true c.head-item.is c.in_ok-add_head.ensures c.loop-head.invariant
