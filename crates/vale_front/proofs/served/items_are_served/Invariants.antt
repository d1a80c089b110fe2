use Rattle.std.proofs.Common.{◌≡◌, map, drop}
use Rattle.std.specs.List.{list_all}
use Rattle.vale_core.specs.View.{view_item}
use Rattle.vale_served_spec.specs.Served.{item_is_served}
use Rattle.vale_front.proofs.served.items_are_served.Given as goal

abbrev pub invariant-loop-item : goal.invariant-loop-item
invariant-loop-item l = list_all item_is_served (map view_item (drop l.item-index l.items)) ≡ list_all item_is_served (map view_item l.items)
