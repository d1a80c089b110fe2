use Rattle.std.proofs.Common.{◌≡◌, map, drop}
use Rattle.std.specs.List.{list_all}
use Rattle.vale_rules_spec.specs.Types.{fits}
use Rattle.vale_core.specs.View.{view_ty}
use Rattle.vale_lookup.specs.Table.{items_of}
use Rattle.vale_type_rules.proofs.fitting.each_fits.Given as goal

-- those that are left give what all of them give
abbrev pub invariant-loop-arg : goal.invariant-loop-arg
invariant-loop-arg l = list_all (λ a. fits (items_of l.table) a (view_ty l.asked)) (map view_ty (drop l.arg-index l.args)) ≡ list_all (λ a. fits (items_of l.table) a (view_ty l.asked)) (map view_ty l.args)
