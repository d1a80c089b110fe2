use Rattle.std.proofs.Common.{◌≡◌, map, drop}
use Rattle.vale_syntax.specs.View.{view_field}
use Rattle.vale_rules_spec.specs.Typed.{types}
use Rattle.vale_rules_spec.specs.TypeRules.{field_types}
use Rattle.vale_core.specs.View.{view_expr, exprs_of}
use Rattle.vale_region_spec.specs.RegionRules.{any_thaws}
use Rattle.vale_region_rules.proofs.calls.fields_thaw.Given as goal

-- it is up to those that are left
abbrev pub invariant-loop-arg : goal.invariant-loop-arg
invariant-loop-arg l = any_thaws (types (exprs_of (map view_expr (drop l.arg-index l.args)))) (field_types (map view_field l.left)) ≡ any_thaws (types (exprs_of (map view_expr l.args))) (field_types (map view_field l.fields))
