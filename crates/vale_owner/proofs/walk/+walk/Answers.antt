use Rattle.std.proofs.Common.{map, refl}
use Rattle.std.specs.Prelude.{None}
use Rattle.vale_core.specs.View.{view_expr, view_stmt, view_step, view_link, view_else_if, exprs_of, links_of, steps_of, stmts_of}
use Rattle.vale_owner.specs.After.{after_expr, after_exprs, after_link, after_links, after_step, after_steps, after_stmt, after_stmts, after_else_if, after_else_ifs, branches_of_else_if, branches_of_else_ifs}
use Rattle.vale_owner_flow.proofs.ListLaws.{list_next, list_done, branches_next, branches_done}
use Rattle.vale_owner.proofs.WalkLaws as w
use Rattle.vale_owner.proofs.walk.+walk.Goals as goal

pub walk_exprs-loop-expr-preserved : goal.walk_exprs-loop-expr-preserved
walk_exprs-loop-expr-preserved t c =
    list_next (λ es f. after_exprs (exprs_of (map view_expr es)) f) (λ e f. after_expr (view_expr e) f) (λ e es f. w.more_exprs f (view_expr e) (exprs_of (map view_expr es)))
    c.args.exprs.now c.loop-expr.expr-index c.expr-item.result c.expr-item.result _ _ _ c.loop-expr-test.true c.expr-item.is c.in_ok-walk_expr.ensures c.loop-expr.invariant

pub walk_exprs-returns : goal.walk_exprs-returns
walk_exprs-returns t c =
    list_done (λ es f. after_exprs (exprs_of (map view_expr es)) f) w.no_exprs c.args.exprs.now c.loop-expr.expr-index _ _ c.loop-expr-test.false c.loop-expr.invariant

pub walk_links-loop-link-preserved : goal.walk_links-loop-link-preserved
walk_links-loop-link-preserved t c =
    list_next (λ ls f. after_links (links_of (map view_link ls)) f) (λ l f. after_link (view_link l) f) (λ l ls f. w.more_links f (view_link l) (links_of (map view_link ls)))
    c.as_slice-slice.result.now c.loop-link.link-index c.link-item.result c.link-item.result _ _ _ c.loop-link-test.true c.link-item.is c.in_ok-walk_link.ensures c.loop-link.invariant

pub walk_links-returns : goal.walk_links-returns
walk_links-returns t c = rw c.as_slice-slice.ensures at
    (list_done (λ ls f. after_links (links_of (map view_link ls)) f) w.no_links c.as_slice-slice.result.now c.loop-link.link-index _ _ c.loop-link-test.false c.loop-link.invariant)

pub walk_steps-loop-step-preserved : goal.walk_steps-loop-step-preserved
walk_steps-loop-step-preserved t c =
    list_next (λ ss f. after_steps (steps_of (map view_step ss)) f) (λ s f. after_step (view_step s) f) (λ s ss f. w.more_steps f (view_step s) (steps_of (map view_step ss)))
    c.as_slice-slice.result.now c.loop-step.step-index c.step-item.result c.step-item.result _ _ _ c.loop-step-test.true c.step-item.is c.in_ok-walk_step.ensures c.loop-step.invariant

pub walk_steps-returns : goal.walk_steps-returns
walk_steps-returns t c = rw c.as_slice-slice.ensures at
    (list_done (λ ss f. after_steps (steps_of (map view_step ss)) f) w.no_steps c.as_slice-slice.result.now c.loop-step.step-index _ _ c.loop-step-test.false c.loop-step.invariant)

pub walk_stmts-loop-stmt-preserved : goal.walk_stmts-loop-stmt-preserved
walk_stmts-loop-stmt-preserved t c =
    list_next (λ ss f. after_stmts (stmts_of (map view_stmt ss) None) f) (λ s f. after_stmt (view_stmt s) f) (λ s ss f. w.more_stmts f (view_stmt s) (stmts_of (map view_stmt ss) None))
    c.as_slice-slice.result.now c.loop-stmt.stmt-index c.stmt-item.result c.stmt-item.result _ _ _ c.loop-stmt-test.true c.stmt-item.is c.in_ok-walk_stmt.ensures c.loop-stmt.invariant

pub walk_stmts-returns : goal.walk_stmts-returns
walk_stmts-returns t c = rw c.as_slice-slice.ensures at
    (list_done (λ ss f. after_stmts (stmts_of (map view_stmt ss) None) f) w.no_stmts c.as_slice-slice.result.now c.loop-stmt.stmt-index _ _ c.loop-stmt-test.false c.loop-stmt.invariant)

pub walk_else_ifs-loop-else_if-preserved : goal.walk_else_ifs-loop-else_if-preserved
walk_else_ifs-loop-else_if-preserved t c = record {
  behind = list_next (λ es f. after_else_ifs (map view_else_if es) f) (λ e f. after_else_if (view_else_if e) f) (λ e es f. refl)
      c.as_slice-slice.result.now c.loop-else_if.else_if-index c.else_if-item.result c.else_if-item.result _ _ _ c.loop-else_if-test.true c.else_if-item.is c.in_ok-walk_else_if.ensures.found c.loop-else_if.invariant.behind;
  branch = branches_next (λ es f k. branches_of_else_ifs (map view_else_if es) f k) (λ e f. after_else_if (view_else_if e) f) (λ e f k. branches_of_else_if (view_else_if e) f k) (λ e es f k. refl)
      c.as_slice-slice.result.now c.loop-else_if.else_if-index c.else_if-item.result c.else_if-item.result _ _ _ _ _ c.loop-else_if-test.true c.else_if-item.is c.in_ok-walk_else_if.ensures.found c.in_ok-walk_else_if.ensures.branch c.loop-else_if.invariant.branch;
}

pub walk_else_ifs-returns-clause-found : goal.walk_else_ifs-returns-clause-found
walk_else_ifs-returns-clause-found t c = rw c.as_slice-slice.ensures at
    (list_done (λ es f. after_else_ifs (map view_else_if es) f) (λ f. refl) c.as_slice-slice.result.now c.loop-else_if.else_if-index _ _ c.loop-else_if-test.false c.loop-else_if.invariant.behind)

pub walk_else_ifs-returns-clause-branch : goal.walk_else_ifs-returns-clause-branch
walk_else_ifs-returns-clause-branch t c = rw c.as_slice-slice.ensures at
    (branches_done (λ es f k. branches_of_else_ifs (map view_else_if es) f k) (λ f k. refl) c.as_slice-slice.result.now c.loop-else_if.else_if-index _ _ _ c.loop-else_if-test.false c.loop-else_if.invariant.branch)
