use Rattle.std.proofs.Common.{◌≡◌, List, [], map, drop}
use Rattle.vale_syntax.specs.Tree.{Item}
use Rattle.vale_rules_spec.specs.Judged.{stopped, one_by_one}
use Rattle.vale_syntax.specs.View.{view_item}
use Rattle.vale_rules_spec.specs.DeclFaults.{item_faults}
use Rattle.vale_types.specs.Before.{IsOf}
use Rattle.vale_types.proofs.items.check_items.Given as goal

-- what is kept is of the items so far, and the items that are left give what all of them give
abbrev pub invariant-loop-item : goal.invariant-loop-item
invariant-loop-item l = (bs : List Item) × IsOf l.names (map view_item l.items) bs l.before × (stopped (one_by_one (item_faults l.names (map view_item l.items)) bs (map view_item (drop l.item-index l.items))) (tt {0}) ≡ stopped (one_by_one (item_faults l.names (map view_item l.items)) [] (map view_item l.items)) (tt {0}))
