use Rattle.std.proofs.Common.{◌≡◌, map, drop, None}
use Rattle.vale_syntax.specs.View.{view_item, view_expr, view_step, view_stmt, view_else_if, view_link, exprs_of, links_of, steps_of, elses_of, stmts_of}
use Rattle.vale_rules_spec.specs.DeclFaults.{in_exprs, in_links, in_steps, in_elses, in_stmts}
use Rattle.vale_types.specs.Walk.{walked}
use Rattle.vale_types.proofs.body.+walk.Given as goal

-- what is left of the list gives what the whole list gives

abbrev pub invariant-walk_stmts-loop-stmt : goal.invariant-walk_stmts-loop-stmt
invariant-walk_stmts-loop-stmt l = walked (in_stmts (map view_item l.items) (stmts_of (map view_stmt (drop l.stmt-index l.stmts)) None)) l.left ≡ walked (in_stmts (map view_item l.items) (stmts_of (map view_stmt l.stmts) None)) l.fn.left

abbrev pub invariant-walk_else_ifs-loop-else_if : goal.invariant-walk_else_ifs-loop-else_if
invariant-walk_else_ifs-loop-else_if l = walked (in_elses (map view_item l.items) (elses_of (map view_else_if (drop l.else_if-index l.else_ifs)) None)) l.left ≡ walked (in_elses (map view_item l.items) (elses_of (map view_else_if l.else_ifs) None)) l.fn.left

abbrev pub invariant-walk_exprs-loop-expr : goal.invariant-walk_exprs-loop-expr
invariant-walk_exprs-loop-expr l = walked (in_exprs (map view_item l.items) (exprs_of (map view_expr (drop l.expr-index l.exprs)))) l.left ≡ walked (in_exprs (map view_item l.items) (exprs_of (map view_expr l.exprs))) l.fn.left

abbrev pub invariant-walk_links-loop-link : goal.invariant-walk_links-loop-link
invariant-walk_links-loop-link l = walked (in_links (map view_item l.items) (links_of (map view_link (drop l.link-index l.links)))) l.left ≡ walked (in_links (map view_item l.items) (links_of (map view_link l.links))) l.fn.left

abbrev pub invariant-walk_steps-loop-step : goal.invariant-walk_steps-loop-step
invariant-walk_steps-loop-step l = walked (in_steps (map view_item l.items) (steps_of (map view_step (drop l.step-index l.steps)))) l.left ≡ walked (in_steps (map view_item l.items) (steps_of (map view_step l.steps))) l.fn.left
