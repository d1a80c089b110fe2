use Rattle.std.proofs.Common.{◌≡◌, ◌||◌, map, drop}
use Rattle.vale_syntax.specs.View.{view_item}
use Rattle.vale_front.specs.Interfaces.{in_items}
use Rattle.vale_front.proofs.interfaces.in_items.Given as goal

abbrev pub invariant-loop-item : goal.invariant-loop-item
invariant-loop-item l = (l.found || in_items (map view_item (drop l.item-index l.items))) ≡ in_items (map view_item l.items)
