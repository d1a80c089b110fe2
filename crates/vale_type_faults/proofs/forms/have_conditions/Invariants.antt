use Rattle.std.proofs.Common.{◌≡◌, Option, map, drop}
use Rattle.std.specs.List.{list_all}
use Rattle.vale_rules_spec.specs.Typed as t
use Rattle.vale_rules_spec.specs.Typed.{condition_types}
use Rattle.vale_rules_spec.specs.TypeRules.{is_bool}
use Rattle.vale_core.specs.View.{elses_of, view_else_if}
use Rattle.vale_type_faults.proofs.forms.have_conditions.Given as goal

-- those that are left give what all of them give
abbrev pub invariant-loop-else_if : goal.invariant-loop-else_if
invariant-loop-else_if l = (o : Option t.Block) → list_all is_bool (condition_types (elses_of (map view_else_if (drop l.else_if-index l.else_ifs)) o)) ≡ list_all is_bool (condition_types (elses_of (map view_else_if l.else_ifs) o))
