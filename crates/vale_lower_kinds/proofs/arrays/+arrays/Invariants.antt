use Rattle.std.proofs.Common.{◌≡◌, ◌++◌, map, drop, None}
use Rattle.vale_core.specs.View.{view_expr, view_stmt, view_step, view_else_if, view_link, exprs_of, links_of, steps_of, elses_of, stmts_of}
use Rattle.vale_model.specs.Kinds.{exprs_arrays, links_arrays, steps_arrays, elses_arrays, stmts_arrays}
use Rattle.vale_lower_kinds.specs.Added.{added}
use Rattle.vale_lower_kinds.specs.Held.{kinds_in}
use Rattle.vale_lower_kinds.proofs.arrays.+arrays.Given as goal

-- the kinds so far, with those of what is left

abbrev pub invariant-add_exprs-loop-expr : goal.invariant-add_exprs-loop-expr
invariant-add_exprs-loop-expr l = added (kinds_in l.kinds) (exprs_arrays (exprs_of (map view_expr (drop l.expr-index l.exprs)))) ≡ added (kinds_in l.initial.kinds) (exprs_arrays (exprs_of (map view_expr l.exprs)))

abbrev pub invariant-add_links-loop-link : goal.invariant-add_links-loop-link
invariant-add_links-loop-link l = added (kinds_in l.kinds) (links_arrays (links_of (map view_link (drop l.link-index l.slice)))) ≡ added (kinds_in l.initial.kinds) (links_arrays (links_of (map view_link l.slice)))

abbrev pub invariant-add_else_ifs-loop-else_if : goal.invariant-add_else_ifs-loop-else_if
invariant-add_else_ifs-loop-else_if l = added (kinds_in l.kinds) (elses_arrays (elses_of (map view_else_if (drop l.else_if-index l.slice)) None)) ≡ added (kinds_in l.initial.kinds) (elses_arrays (elses_of (map view_else_if l.slice) None))

abbrev pub invariant-add_stmts-loop-stmt : goal.invariant-add_stmts-loop-stmt
invariant-add_stmts-loop-stmt l = added (kinds_in l.kinds) (stmts_arrays (stmts_of (map view_stmt (drop l.stmt-index l.stmts)) None)) ≡ added (kinds_in l.initial.kinds) (stmts_arrays (stmts_of (map view_stmt l.stmts) None))

abbrev pub invariant-add_steps-loop-step : goal.invariant-add_steps-loop-step
invariant-add_steps-loop-step l = added (kinds_in l.kinds) (steps_arrays (steps_of (map view_step (drop l.step-index l.slice)))) ≡ added (kinds_in l.initial.kinds) (steps_arrays (steps_of (map view_step l.slice)))
