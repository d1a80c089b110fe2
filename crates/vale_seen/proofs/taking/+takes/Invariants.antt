use Rattle.std.proofs.Common.{◌≡◌, map, drop, None}
use Rattle.vale_syntax.specs.View.{view_expr, view_step, view_stmt, view_else_if, view_link, exprs_of, links_of, steps_of, elses_of, stmts_of}
use Rattle.vale_rules_spec.specs.Takes.{exprs_take, links_take, steps_take, elses_take, stmts_take}
use Rattle.vale_seen.proofs.taking.+takes.Given as goal

-- what is left of the list gives what the whole list gives

abbrev pub invariant-exprs_take-loop-expr : goal.invariant-exprs_take-loop-expr
invariant-exprs_take-loop-expr l = exprs_take l.local.0 (exprs_of (map view_expr (drop l.expr-index l.exprs))) ≡ exprs_take l.local.0 (exprs_of (map view_expr l.exprs))

abbrev pub invariant-links_take-loop-link : goal.invariant-links_take-loop-link
invariant-links_take-loop-link l = links_take l.local.0 (links_of (map view_link (drop l.link-index l.links))) ≡ links_take l.local.0 (links_of (map view_link l.links))

abbrev pub invariant-steps_take-loop-step : goal.invariant-steps_take-loop-step
invariant-steps_take-loop-step l = steps_take l.local.0 (steps_of (map view_step (drop l.step-index l.steps))) ≡ steps_take l.local.0 (steps_of (map view_step l.steps))

abbrev pub invariant-else_ifs_take-loop-else_if : goal.invariant-else_ifs_take-loop-else_if
invariant-else_ifs_take-loop-else_if l = elses_take l.local.0 (elses_of (map view_else_if (drop l.else_if-index l.else_ifs)) None) ≡ elses_take l.local.0 (elses_of (map view_else_if l.else_ifs) None)

abbrev pub invariant-stmts_take-loop-stmt : goal.invariant-stmts_take-loop-stmt
invariant-stmts_take-loop-stmt l = stmts_take l.local.0 (stmts_of (map view_stmt (drop l.stmt-index l.stmts)) None) ≡ stmts_take l.local.0 (stmts_of (map view_stmt l.stmts) None)
