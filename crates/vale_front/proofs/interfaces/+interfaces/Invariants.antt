use Rattle.std.proofs.Common.{◌≡◌, ◌||◌, map, drop, None}
use Rattle.vale_syntax.specs.View.{view_expr, view_step, view_stmt, view_else_if, view_link, exprs_of, links_of, steps_of, elses_of, stmts_of}
use Rattle.vale_front.specs.Interfaces.{in_exprs, in_links, in_steps, in_elses, in_stmts}
use Rattle.vale_front.proofs.interfaces.+interfaces.Given as goal

-- what was found, and what is left of the list has

abbrev pub invariant-in_exprs-loop-expr : goal.invariant-in_exprs-loop-expr
invariant-in_exprs-loop-expr l = (l.found || in_exprs (exprs_of (map view_expr (drop l.expr-index l.exprs)))) ≡ in_exprs (exprs_of (map view_expr l.exprs))

abbrev pub invariant-in_links-loop-link : goal.invariant-in_links-loop-link
invariant-in_links-loop-link l = (l.found || in_links (links_of (map view_link (drop l.link-index l.links)))) ≡ in_links (links_of (map view_link l.links))

abbrev pub invariant-in_steps-loop-step : goal.invariant-in_steps-loop-step
invariant-in_steps-loop-step l = (l.found || in_steps (steps_of (map view_step (drop l.step-index l.steps)))) ≡ in_steps (steps_of (map view_step l.steps))

abbrev pub invariant-in_else_ifs-loop-else_if : goal.invariant-in_else_ifs-loop-else_if
invariant-in_else_ifs-loop-else_if l = (l.found || in_elses (elses_of (map view_else_if (drop l.else_if-index l.else_ifs)) None)) ≡ in_elses (elses_of (map view_else_if l.else_ifs) None)

abbrev pub invariant-in_stmts-loop-stmt : goal.invariant-in_stmts-loop-stmt
invariant-in_stmts-loop-stmt l = (l.found || in_stmts (stmts_of (map view_stmt (drop l.stmt-index l.stmts)) None)) ≡ in_stmts (stmts_of (map view_stmt l.stmts) None)
