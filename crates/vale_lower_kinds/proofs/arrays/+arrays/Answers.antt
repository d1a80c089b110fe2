use Rattle.std.proofs.lemmas.Result.{on_ok_weaker}
use Rattle.vale_lower_kinds.specs.Held.{kinds_in}
use Rattle.std.proofs.Common.{map, None, refl}
use Rattle.vale_core.specs.View.{view_expr, view_stmt, view_step, view_else_if, view_link, exprs_of, links_of, steps_of, elses_of, stmts_of}
use Rattle.vale_model.specs.Kinds.{expr_arrays, exprs_arrays, link_arrays, links_arrays, step_arrays, steps_arrays, else_if_arrays, elses_arrays, stmt_arrays, stmts_arrays}
use Rattle.vale_lower_kinds.proofs.AddedLaws.{next}
use Rattle.vale_lower_kinds.proofs.ArrayLaws.{by_if}
use Rattle.vale_lower_kinds.proofs.arrays.+arrays.Goals as goal

pub add_form-returns-in_ok-add_else_ifs-in-If : goal.add_form-returns-in_ok-add_else_ifs-in-If
add_form-returns-in_ok-add_else_ifs-in-If t c = on_ok_weaker c.add_else.result (λ e.
    by_if c.args.form.now _ _ _ _ _ (kinds_in c.args.kinds.now) _ _ _ (kinds_in c.add_else.new.kinds) c.in-If.is c.in_ok-add_expr-in-If.ensures c.in_ok-add_block-in-If.ensures c.in_ok-add_else_ifs-in-If.ensures e) c.add_else.ensures

pub add_exprs-loop-expr-preserved : goal.add_exprs-loop-expr-preserved
add_exprs-loop-expr-preserved t c =
    next (λ z. exprs_arrays (exprs_of (map view_expr z))) (λ z. expr_arrays (view_expr z)) (λ x xs. refl) c.args.exprs.now c.loop-expr.expr-index c.expr-item.result (kinds_in c.loop-expr.kinds) (kinds_in c.add_expr.new.kinds) _ c.loop-expr-test.true c.expr-item.is c.in_ok-add_expr.ensures c.loop-expr.invariant

pub add_links-loop-link-preserved : goal.add_links-loop-link-preserved
add_links-loop-link-preserved t c =
    next (λ z. links_arrays (links_of (map view_link z))) (λ z. link_arrays (view_link z)) (λ x xs. refl) c.as_slice-slice.result.now c.loop-link.link-index c.link-item.result (kinds_in c.loop-link.kinds) (kinds_in c.add_link.new.kinds) _ c.loop-link-test.true c.link-item.is c.in_ok-add_link.ensures c.loop-link.invariant

pub add_steps-loop-step-preserved : goal.add_steps-loop-step-preserved
add_steps-loop-step-preserved t c =
    next (λ z. steps_arrays (steps_of (map view_step z))) (λ z. step_arrays (view_step z)) (λ x xs. refl) c.as_slice-slice.result.now c.loop-step.step-index c.step-item.result (kinds_in c.loop-step.kinds) (kinds_in c.add_step.new.kinds) _ c.loop-step-test.true c.step-item.is c.in_ok-add_step.ensures c.loop-step.invariant

pub add_else_ifs-loop-else_if-preserved : goal.add_else_ifs-loop-else_if-preserved
add_else_ifs-loop-else_if-preserved t c =
    next (λ z. elses_arrays (elses_of (map view_else_if z) None)) (λ z. else_if_arrays (view_else_if z)) (λ x xs. refl) c.as_slice-slice.result.now c.loop-else_if.else_if-index c.else_if-item.result (kinds_in c.loop-else_if.kinds) (kinds_in c.add_else_if.new.kinds) _ c.loop-else_if-test.true c.else_if-item.is c.in_ok-add_else_if.ensures c.loop-else_if.invariant

pub add_stmts-loop-stmt-preserved : goal.add_stmts-loop-stmt-preserved
add_stmts-loop-stmt-preserved t c =
    next (λ z. stmts_arrays (stmts_of (map view_stmt z) None)) (λ z. stmt_arrays (view_stmt z)) (λ x xs. refl) c.args.stmts.now c.loop-stmt.stmt-index c.stmt-item.result (kinds_in c.loop-stmt.kinds) (kinds_in c.add_stmt.new.kinds) _ c.loop-stmt-test.true c.stmt-item.is c.in_ok-add_stmt.ensures c.loop-stmt.invariant
