use Rattle.std.proofs.Common.{◌≡◌, map, drop}
use Rattle.vale_rules_spec.specs.TypeRules.{all_fit}
use Rattle.vale_core.specs.View.{view_ty}
use Rattle.vale_lookup.specs.Table.{items_of}
use Rattle.vale_type_rules.proofs.fitting.all_fit.Given as goal

-- those that are left give what all of them give
abbrev pub invariant-loop-arg : goal.invariant-loop-arg
invariant-loop-arg l = all_fit (items_of l.table) l.is_pure (map view_ty (drop l.arg-index l.args)) (map view_ty l.left) ≡ all_fit (items_of l.table) l.is_pure (map view_ty l.args) (map view_ty l.takes)
