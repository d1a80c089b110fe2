use Rattle.std.proofs.Common.{◌≡◌, map, drop}
use Rattle.vale_syntax.specs.View.{view_param}
use Rattle.vale_rules_spec.specs.Typed.{types}
use Rattle.vale_rules_spec.specs.TypeRules.{param_types}
use Rattle.vale_core.specs.View.{view_expr, exprs_of}
use Rattle.vale_region_spec.specs.RegionRules.{any_thaws}
use Rattle.vale_region_rules.proofs.calls.params_thaw.Given as goal

-- it is up to those that are left
abbrev pub invariant-loop-arg : goal.invariant-loop-arg
invariant-loop-arg l = any_thaws (types (exprs_of (map view_expr (drop l.arg-index l.args)))) (param_types (map view_param l.left)) ≡ any_thaws (types (exprs_of (map view_expr l.args))) (param_types (map view_param l.params))
