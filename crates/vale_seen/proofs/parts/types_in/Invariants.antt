use Rattle.std.proofs.Common.{◌≡◌, ◌++◌, map, drop}
use Rattle.vale_rules_spec.specs.Typed.{types}
use Rattle.vale_core.specs.View.{exprs_of, view_ty, view_expr}
use Rattle.vale_seen.proofs.parts.types_in.Given as goal

-- with those of the expressions that are left they are those of all
abbrev pub invariant-loop-expr : goal.invariant-loop-expr
invariant-loop-expr l = (map view_ty l.types.items ++ types (exprs_of (map view_expr (drop l.expr-index l.exprs)))) ≡ types (exprs_of (map view_expr l.exprs))
