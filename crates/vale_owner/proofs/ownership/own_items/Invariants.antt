use Rattle.std.proofs.Common.{◌≡◌, map, drop}
use Rattle.vale_rules_spec.specs.Judged.{stopped}
use Rattle.vale_core.specs.View.{view_item}
use Rattle.vale_rules_spec.specs.Owned.{items_faults}
use Rattle.vale_owner.proofs.ownership.own_items.Given as goal

-- those before have no fault
abbrev pub invariant-loop-item : goal.invariant-loop-item
invariant-loop-item l = stopped (items_faults l.names (map view_item (drop l.item-index l.items))) (tt {0}) ≡ stopped (items_faults l.names (map view_item l.items)) (tt {0})
