use Rattle.std.proofs.Common.{◌≡◌, map, drop}
use Rattle.std.specs.List.{list_any}
use Rattle.vale_rules_spec.specs.Typed.{types}
use Rattle.vale_core.specs.View.{view_ty, view_expr, exprs_of}
use Rattle.vale_region_spec.specs.RegionRules.{thaws}
use Rattle.vale_region_rules.proofs.calls.elements_thaw.Given as goal

-- it is up to those that are left
abbrev pub invariant-loop-arg : goal.invariant-loop-arg
invariant-loop-arg l = list_any (λ a. thaws a (view_ty l.element)) (types (exprs_of (map view_expr (drop l.arg-index l.args)))) ≡ list_any (λ a. thaws a (view_ty l.element)) (types (exprs_of (map view_expr l.args)))
