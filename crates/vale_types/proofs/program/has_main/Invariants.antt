use Rattle.std.proofs.Common.{◌≡◌, map, drop}
use Rattle.std.specs.List.{list_any}
use Rattle.vale_syntax.specs.View.{view_item}
use Rattle.vale_rules_spec.specs.Declarations.{is_function_with, is_main}
use Rattle.vale_types.proofs.program.has_main.Given as goal

-- the items that are left decide
abbrev pub invariant-loop-item : goal.invariant-loop-item
invariant-loop-item l = list_any (is_function_with (is_main l.names)) (map view_item (drop l.item-index l.items)) ≡ list_any (is_function_with (is_main l.names)) (map view_item l.items)
