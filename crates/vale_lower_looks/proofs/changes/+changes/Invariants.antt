use Rattle.std.proofs.Common.{◌≡◌, map, drop, None}
use Rattle.vale_core.specs.View.{view_expr, view_step, view_stmt, view_else_if, view_link, exprs_of, links_of, steps_of, elses_of, stmts_of}
use Rattle.vale_lowering_objects.specs.Changes.{exprs_change, links_change, steps_change, elses_change, stmts_change}
use Rattle.vale_lower_looks.proofs.changes.+changes.Given as goal

-- it is up to what is left of the list

abbrev pub invariant-exprs_change-loop-expr : goal.invariant-exprs_change-loop-expr
invariant-exprs_change-loop-expr l = exprs_change l.local.0 (exprs_of (map view_expr (drop l.expr-index l.exprs))) ≡ exprs_change l.local.0 (exprs_of (map view_expr l.exprs))

abbrev pub invariant-links_change-loop-link : goal.invariant-links_change-loop-link
invariant-links_change-loop-link l = links_change l.local.0 (links_of (map view_link (drop l.link-index l.slice))) ≡ links_change l.local.0 (links_of (map view_link l.slice))

abbrev pub invariant-steps_change-loop-step : goal.invariant-steps_change-loop-step
invariant-steps_change-loop-step l = steps_change l.local.0 (steps_of (map view_step (drop l.step-index l.slice))) ≡ steps_change l.local.0 (steps_of (map view_step l.slice))

abbrev pub invariant-else_ifs_change-loop-else_if : goal.invariant-else_ifs_change-loop-else_if
invariant-else_ifs_change-loop-else_if l = elses_change l.local.0 (elses_of (map view_else_if (drop l.else_if-index l.slice)) None) ≡ elses_change l.local.0 (elses_of (map view_else_if l.slice) None)

abbrev pub invariant-stmts_change-loop-stmt : goal.invariant-stmts_change-loop-stmt
invariant-stmts_change-loop-stmt l = stmts_change l.local.0 (stmts_of (map view_stmt (drop l.stmt-index l.stmts)) None) ≡ stmts_change l.local.0 (stmts_of (map view_stmt l.stmts) None)
