use Rattle.std.proofs.Common.{◌≡◌, ℕ, ◌||◌, map, drop}
use Rattle.vale_syntax.specs.View.{view_item}
use Rattle.vale_rules_spec.specs.Declarations.{iso_holders}
use Rattle.vale_names.specs.Isos.{is_in}
use Rattle.vale_names.specs.Spread.{finds, awaits}
use Rattle.vale_names.proofs.reach.holders.Given as goal

-- with those of the items that are left they are those of all, and none was looked at
abbrev pub invariant-loop-item : goal.invariant-loop-item
invariant-loop-item l = record {
  found : (n : ℕ) → (finds l.spread n || is_in (iso_holders (map view_item (drop l.item-index l.items))) n) ≡ is_in (iso_holders (map view_item l.items)) n;
  todo : (n : ℕ) → awaits l.spread n ≡ finds l.spread n;
}
