use Rattle.std.proofs.Common.{◌≡◌, ◌++◌, map, drop}
use Rattle.vale_syntax.specs.View.{view_item}
use Rattle.vale_rules_spec.specs.Declarations.{structs_from, interfaces_from, impls_from, functions_from}
use Rattle.vale_types.proofs.collect.collect.Given as goal

-- each list, with those of the items that are left, is that of all
abbrev pub invariant-loop-item : goal.invariant-loop-item
invariant-loop-item l = record {
  structs : l.structs.items ++ structs_from l.item (map view_item (drop l.item l.items)) ≡ structs_from 0 (map view_item l.items);
  interfaces : l.interfaces.items ++ interfaces_from l.item (map view_item (drop l.item l.items)) ≡ interfaces_from 0 (map view_item l.items);
  impls : l.impls.items ++ impls_from l.item (map view_item (drop l.item l.items)) ≡ impls_from 0 (map view_item l.items);
  functions : l.functions.items ++ functions_from l.item (map view_item (drop l.item l.items)) ≡ functions_from 0 (map view_item l.items);
}
