use Rattle.std.proofs.Common.{◌≡◌, ℕ, ◌||◌, map, drop}
use Rattle.vale_syntax.specs.View.{view_item}
use Rattle.vale_rules_spec.specs.Declarations.{leads}
use Rattle.vale_names.specs.Isos.{is_edge}
use Rattle.vale_names.specs.Mentions.{mentions}
use Rattle.vale_names.proofs.mentions.Mentions.among.Given as goal

-- with those of the items that are left they are those of all
abbrev pub invariant-loop-item : goal.invariant-loop-item
invariant-loop-item l = (m : ℕ) → (n : ℕ) → (mentions l.found m n || is_edge (leads (map view_item (drop l.item-index l.items))) m n) ≡ is_edge (leads (map view_item l.items)) m n
