use Rattle.std.proofs.Common.{◌≡◌, ℕ, map, drop, ◌||◌}
use Rattle.std.specs.List.{list_any}
use Rattle.vale_syntax.specs.View.{view_item}
use Rattle.vale_rules_spec.specs.Types.{is_impl}
use Rattle.vale_lookup.specs.Index.{has_impl}
use Rattle.vale_lookup.proofs.index.impls.Given as goal

-- the pairs so far and those of what is left are those of all
abbrev pub invariant-loop-item : goal.invariant-loop-item
invariant-loop-item l = (i s : ℕ) → (has_impl l.impls i s || list_any (is_impl s i) (map view_item (drop l.item-index l.items))) ≡ list_any (is_impl s i) (map view_item l.items)
