use Rattle.std.proofs.Common.{◌≡◌, map, drop}
use Rattle.std.specs.Prelude.{None}
use Rattle.vale_rules_spec.specs.Judged.{first_of}
use Rattle.vale_core.specs.View.{view_seen, view_expr, view_stmt, view_step, view_link, view_else_if, exprs_of, links_of, steps_of, elses_of, stmts_of}
use Rattle.vale_region_spec.specs.Isolated.{exprs_faults, links_faults, steps_faults, elses_faults, stmts_faults}
use Rattle.vale_iso.proofs.walk.+walk.Given as goal

-- the first fault is that of what is left of the list

abbrev pub invariant-in_exprs-loop-expr : goal.invariant-in_exprs-loop-expr
invariant-in_exprs-loop-expr l = first_of (exprs_faults (exprs_of (map view_expr (drop l.expr-index l.slice)))) ≡ first_of (exprs_faults (exprs_of (map view_expr l.slice)))

abbrev pub invariant-in_links-loop-link : goal.invariant-in_links-loop-link
invariant-in_links-loop-link l = first_of (links_faults (links_of (map view_link (drop l.link-index l.slice)))) ≡ first_of (links_faults (links_of (map view_link l.slice)))

abbrev pub invariant-in_steps-loop-step : goal.invariant-in_steps-loop-step
invariant-in_steps-loop-step l = first_of (steps_faults (view_seen l.before) (steps_of (map view_step (drop l.step-index l.slice)))) ≡ first_of (steps_faults (view_seen l.base) (steps_of (map view_step l.slice)))

abbrev pub invariant-in_else_ifs-loop-else_if : goal.invariant-in_else_ifs-loop-else_if
invariant-in_else_ifs-loop-else_if l = first_of (elses_faults (elses_of (map view_else_if (drop l.else_if-index l.slice)) None)) ≡ first_of (elses_faults (elses_of (map view_else_if l.slice) None))

abbrev pub invariant-in_stmts-loop-stmt : goal.invariant-in_stmts-loop-stmt
invariant-in_stmts-loop-stmt l = first_of (stmts_faults (stmts_of (map view_stmt (drop l.stmt-index l.slice)) None)) ≡ first_of (stmts_faults (stmts_of (map view_stmt l.slice) None))
