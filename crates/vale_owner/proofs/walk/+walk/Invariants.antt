use Rattle.std.proofs.Common.{◌≡◌, map, drop}
use Rattle.std.specs.Prelude.{None}
use Rattle.vale_core.specs.View.{view_expr, view_stmt, view_step, view_link, view_else_if, exprs_of, links_of, steps_of, stmts_of}
use Rattle.vale_owner_flow.specs.FlowView.{found, kept}
use Rattle.vale_owner.specs.After.{after_exprs, after_links, after_steps, after_stmts, after_else_ifs, branches_of_else_ifs}
use Rattle.vale_owner.proofs.walk.+walk.Given as goal

-- what is left, after what is found, finds what all of it finds

abbrev pub invariant-walk_exprs-loop-expr : goal.invariant-walk_exprs-loop-expr
invariant-walk_exprs-loop-expr l = after_exprs (exprs_of (map view_expr (drop l.expr-index l.exprs))) (found l.flow_state) ≡ after_exprs (exprs_of (map view_expr l.exprs)) (found l.initial.flow_state)

abbrev pub invariant-walk_links-loop-link : goal.invariant-walk_links-loop-link
invariant-walk_links-loop-link l = after_links (links_of (map view_link (drop l.link-index l.slice))) (found l.flow_state) ≡ after_links (links_of (map view_link l.slice)) (found l.initial.flow_state)

abbrev pub invariant-walk_steps-loop-step : goal.invariant-walk_steps-loop-step
invariant-walk_steps-loop-step l = after_steps (steps_of (map view_step (drop l.step-index l.slice))) (found l.flow_state) ≡ after_steps (steps_of (map view_step l.slice)) (found l.initial.flow_state)

abbrev pub invariant-walk_stmts-loop-stmt : goal.invariant-walk_stmts-loop-stmt
invariant-walk_stmts-loop-stmt l = after_stmts (stmts_of (map view_stmt (drop l.stmt-index l.slice)) None) (found l.flow_state) ≡ after_stmts (stmts_of (map view_stmt l.slice) None) (found l.initial.flow_state)

abbrev pub invariant-walk_else_ifs-loop-else_if : goal.invariant-walk_else_ifs-loop-else_if
invariant-walk_else_ifs-loop-else_if l = record {
  behind : after_else_ifs (map view_else_if (drop l.else_if-index l.slice)) (found l.flow_state) ≡ after_else_ifs (map view_else_if l.slice) (found l.initial.flow_state);
  branch : branches_of_else_ifs (map view_else_if (drop l.else_if-index l.slice)) (found l.flow_state) (kept l.branches) ≡ branches_of_else_ifs (map view_else_if l.slice) (found l.initial.flow_state) (kept l.initial.branches);
}
