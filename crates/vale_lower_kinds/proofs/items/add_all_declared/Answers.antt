use Rattle.std.proofs.Common.{map, refl}
use Rattle.std.specs.Prelude.{flat_map}
use Rattle.vale_core.specs.View.{view_item}
use Rattle.vale_model.specs.Kinds.{declared_arrays}
use Rattle.vale_lower_kinds.specs.Held.{kinds_in}
use Rattle.vale_lower_kinds.proofs.AddedLaws.{next}
use Rattle.vale_lower_kinds.proofs.items.add_all_declared.Goals as goal

pub loop-item-preserved : goal.loop-item-preserved
loop-item-preserved c =
    next (λ z. flat_map declared_arrays (map view_item z)) (λ z. declared_arrays (view_item z)) (λ x xs. refl) c.args.items.now c.loop-item.item-index c.item-item.result (kinds_in c.loop-item.kinds) (kinds_in c.add_declared.new.kinds) _ c.loop-item-test.true c.item-item.is c.in_ok-add_declared.ensures c.loop-item.invariant
