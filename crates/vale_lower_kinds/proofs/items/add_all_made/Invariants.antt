use Rattle.std.proofs.Common.{◌≡◌, map, drop}
use Rattle.std.specs.Prelude.{flat_map}
use Rattle.vale_core.specs.View.{view_item}
use Rattle.vale_model.specs.Kinds.{made_arrays}
use Rattle.vale_lower_kinds.specs.Added.{added}
use Rattle.vale_lower_kinds.specs.Held.{kinds_in}
use Rattle.vale_lower_kinds.proofs.items.add_all_made.Given as goal

-- the kinds so far, with those of what is left
abbrev pub invariant-loop-item : goal.invariant-loop-item
invariant-loop-item l = added (kinds_in l.kinds) (flat_map made_arrays (map view_item (drop l.item-index l.items))) ≡ added (kinds_in l.initial.kinds) (flat_map made_arrays (map view_item (l.items)))
