use Rattle.std.proofs.Common.{◌≡◌, map, drop}
use Rattle.std.specs.Prelude.{◌||◌}
use Rattle.vale_syntax.specs.declared.tree.NameAt.{NameAt}
use Rattle.vale_syntax.specs.View.{view_item}
use Rattle.vale_rules_spec.specs.DeclRules.{is_kind}
use Rattle.vale_names.specs.Names.{has}
use Rattle.vale_types.proofs.known.kind_names.Given as goal

-- with those of the items that are left they are those of all
abbrev pub invariant-loop-item : goal.invariant-loop-item
invariant-loop-item l = (n : NameAt) → (has l.names n.name.0 || is_kind (map view_item (drop l.item-index l.items)) n) ≡ is_kind (map view_item l.items) n
