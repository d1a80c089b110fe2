use Rattle.std.proofs.Common.{◌≡◌, map, drop}
use Rattle.std.specs.Prelude.{◌||◌}
use Rattle.std.specs.List.{list_any}
use Rattle.vale_syntax.specs.declared.tree.NameAt.{NameAt}
use Rattle.vale_syntax.specs.View.{view_item}
use Rattle.vale_rules_spec.specs.Declarations.{is_struct_of}
use Rattle.vale_names.specs.Names.{has}
use Rattle.vale_types.proofs.known.struct_names.Given as goal

-- with those of the items that are left they are those of all
abbrev pub invariant-loop-item : goal.invariant-loop-item
invariant-loop-item l = (n : NameAt) → (has l.names n.name.0 || list_any (is_struct_of n) (map view_item (drop l.item-index l.items))) ≡ list_any (is_struct_of n) (map view_item l.items)
