use Rattle.std.proofs.Common.{option_map, refl, sym, ap, ◌∙◌, arith}
use Rattle.std.proofs.lemmas.Result.{on_ok_weaker}
use Rattle.vale_core.specs.declared.tree.Block.{out-Block}
use Rattle.vale_core.specs.View.{view_expr, view_block, last_end}
use Rattle.vale_core.proofs.ViewLaws.{of_int}
use Rattle.vale_rules_spec.specs.Types.{Ty}
use Rattle.vale_lower_facts.specs.Slots.{local, with_slot}
use Rattle.vale_label_steps.specs.Progress.{progress, with_marks}
use Rattle.vale_label_steps.specs.Standing.{stand, framed, slots_of, plain}
use Rattle.vale_lower_labels.proofs.ListLaws.{args_next, args_due_next, args_done, links_next, links_due_next, links_done, sides_next, sides_due_next, sides_done, stmts_next, stmts_stop, stmts_done, due_next, due_stop, due_done}
use Rattle.vale_lower_labels.proofs.WalkLaws.{block_by_parts, block_due_by_parts, return_by_parts, turns_by_parts}
use Rattle.vale_lower_labels.proofs.walk.+walk.Goals as goal

-- ---- lists

pub walk_args-loop-at-preserved : goal.walk_args-loop-at-preserved
walk_args-loop-at-preserved t c = record {
  next = omega (arith, c.in_ok-next.ensures, c.loop-at.invariant.next);
  marks = args_next c.args.args.now c.loop-at.at c.index-args-at.result (plain c.args.here.now.returns) c.args.here.now.next (slots_of c.args.here.now.slots.now) c.args.here.now.over c.loop-at.next c.in_ok-next.next
      c.loop-at.labels.due c.walk_value.new.labels.due (progress c.loop-at.labels) (progress c.walk_value.new.labels) _
      c.loop-at-test.true c.index-args-at.is c.loop-at.invariant.next c.in_ok-next.ensures c.in_ok-walk_value.ensures.marks c.in_ok-walk_value.ensures.due c.loop-at.invariant.marks;
  due = args_due_next c.args.args.now c.loop-at.at c.index-args-at.result c.loop-at.labels.due c.walk_value.new.labels.due _
      c.loop-at-test.true c.index-args-at.is c.in_ok-walk_value.ensures.due c.loop-at.invariant.due;
}

pub walk_args-returns-clause-marks : goal.walk_args-returns-clause-marks
walk_args-returns-clause-marks t c =
    args_done (plain c.args.here.now.returns) c.args.args.now c.loop-at.at c.loop-at.next _ c.loop-at.labels.due (progress c.loop-at.labels) _ c.loop-at-test.false c.loop-at.invariant.marks

pub walk_links-loop-link-preserved : goal.walk_links-loop-link-preserved
walk_links-loop-link-preserved t c = record {
  marks = links_next (plain c.args.here.now.returns) c.as_slice-slice.result.now c.loop-link.link-index c.link-item.result _ _ c.args.here.now.next (stand c.args.here.now) c.loop-link.labels.due c.walk_link.new.labels.due
      (progress c.loop-link.labels) (progress c.walk_link.new.labels) _ c.loop-link-test.true c.link-item.is refl c.in_ok-walk_link.ensures.marks c.in_ok-walk_link.ensures.due c.loop-link.invariant.marks;
  due = links_due_next c.as_slice-slice.result.now c.loop-link.link-index c.link-item.result c.loop-link.labels.due c.walk_link.new.labels.due _ c.loop-link-test.true c.link-item.is c.in_ok-walk_link.ensures.due c.loop-link.invariant.due;
}

pub walk_links-returns-clause-marks : goal.walk_links-returns-clause-marks
walk_links-returns-clause-marks t c = rw c.as_slice-slice.ensures at
    (links_done (plain c.args.here.now.returns) c.as_slice-slice.result.now c.loop-link.link-index _ c.args.here.now.next (stand c.args.here.now) c.loop-link.labels.due (progress c.loop-link.labels) _ c.loop-link-test.false c.loop-link.invariant.marks)

pub walk_else_ifs-loop-else_if-preserved : goal.walk_else_ifs-loop-else_if-preserved
walk_else_ifs-loop-else_if-preserved t c = record {
  marks = sides_next (plain c.args.here.now.returns) c.args.gives c.as_slice-slice.result.now c.loop-else_if.else_if-index c.else_if-item.result c.args.here.now.next (stand c.args.here.now) c.loop-else_if.labels.due c.walk_else_if.new.labels.due
      (progress c.loop-else_if.labels) (progress c.walk_else_if.new.labels) _ c.loop-else_if-test.true c.else_if-item.is c.in_ok-walk_else_if.ensures.marks c.in_ok-walk_else_if.ensures.due c.loop-else_if.invariant.marks;
  due = sides_due_next c.as_slice-slice.result.now c.loop-else_if.else_if-index c.else_if-item.result c.loop-else_if.labels.due c.walk_else_if.new.labels.due _ c.loop-else_if-test.true c.else_if-item.is c.in_ok-walk_else_if.ensures.due c.loop-else_if.invariant.due;
}

pub walk_else_ifs-returns-clause-marks : goal.walk_else_ifs-returns-clause-marks
walk_else_ifs-returns-clause-marks t c = rw c.as_slice-slice.ensures at
    (sides_done (plain c.args.here.now.returns) c.args.gives c.as_slice-slice.result.now c.loop-else_if.else_if-index c.args.here.now.next (stand c.args.here.now) c.loop-else_if.labels.due (progress c.loop-else_if.labels) _ c.loop-else_if-test.false c.loop-else_if.invariant.marks)

-- ---- blocks

pub walk_block-loop-stmt-preserved : goal.walk_block-loop-stmt-preserved
walk_block-loop-stmt-preserved t c =
    let a = plain c.args.here.now.returns in
    let last = last_end (option_map view_expr (out-Block c.args.block.now).last) in
    let slots = slots_of c.args.here.now.slots.now in
    record {
      marks = stmts_next a c.args.gives last c.as_slice-stmts.result.now c.loop-stmt.stmt-index c.stmt-item.result
          c.loop-stmt.frame.next (framed c.loop-stmt.frame.locals.items slots) c.loop-stmt.frame.over c.loop-stmt.labels.due (progress c.loop-stmt.labels) c.loop-stmt-test.true c.stmt-item.is
          c.walk_next.new.frame.next (framed c.walk_next.new.frame.locals.items slots) c.walk_next.new.frame.over c.walk_next.new.labels.due (progress c.walk_next.new.labels) _
          (sym c.in_ok-goes_on.ensures.goes_on ∙ c.if-not-goes_on.false) c.in_ok-goes_on.ensures.marks c.in_ok-goes_on.ensures.due c.in_ok-goes_on.ensures.locals c.in_ok-goes_on.ensures.next c.in_ok-goes_on.ensures.over
          c.loop-stmt.invariant.marks;
      due = due_next a c.args.gives last c.as_slice-stmts.result.now c.loop-stmt.stmt-index c.stmt-item.result c.args.here.now.returns c.loop-stmt.labels.due c.walk_next.new.labels.due _
          c.loop-stmt-test.true c.stmt-item.is (sym c.in_ok-goes_on.ensures.goes_on ∙ c.if-not-goes_on.false) c.in_ok-goes_on.ensures.due c.loop-stmt.invariant.due;
    }

pub walk_block-returns-then-not-goes_on-clause-marks : goal.walk_block-returns-then-not-goes_on-clause-marks
walk_block-returns-then-not-goes_on-clause-marks t c =
    stmts_stop (plain c.args.here.now.returns) c.args.gives (last_end (option_map view_expr (out-Block c.args.block.now).last)) c.as_slice-stmts.result.now c.loop-stmt.stmt-index c.stmt-item.result
    c.loop-stmt.frame.next (framed c.loop-stmt.frame.locals.items (slots_of c.args.here.now.slots.now)) c.loop-stmt.frame.over c.loop-stmt.labels.due (progress c.loop-stmt.labels) c.loop-stmt-test.true c.stmt-item.is
    (progress c.walk_next.new.labels) _ (sym c.in_ok-goes_on.ensures.goes_on ∙ c.if-not-goes_on.true) c.in_ok-goes_on.ensures.marks c.loop-stmt.invariant.marks
    ∙ rw c.as_slice-stmts.ensures (ap (λ z. with_marks z (progress c.args.labels.now)) (sym (block_by_parts (plain c.args.here.now.returns) c.args.here.now.next (stand c.args.here.now) c.args.labels.now.due c.args.gives c.args.block.now)))

pub walk_block-returns-then-not-goes_on-clause-due : goal.walk_block-returns-then-not-goes_on-clause-due
walk_block-returns-then-not-goes_on-clause-due t c =
    due_stop (plain c.args.here.now.returns) c.args.gives (last_end (option_map view_expr (out-Block c.args.block.now).last)) c.as_slice-stmts.result.now c.loop-stmt.stmt-index c.stmt-item.result
    c.args.here.now.returns c.loop-stmt.labels.due c.walk_next.new.labels.due _ c.loop-stmt-test.true c.stmt-item.is (sym c.in_ok-goes_on.ensures.goes_on ∙ c.if-not-goes_on.true) c.in_ok-goes_on.ensures.due c.loop-stmt.invariant.due
    ∙ rw c.as_slice-stmts.ensures (sym (block_due_by_parts c.args.here.now.returns c.args.gives c.args.block.now c.args.labels.now.due))

pub walk_block-returns-clause-marks : goal.walk_block-returns-clause-marks
walk_block-returns-clause-marks t c = on_ok_weaker c.walk_last.result (λ e.
    stmts_done (plain c.args.here.now.returns) c.args.gives (last_end (option_map view_expr (out-Block c.args.block.now).last)) c.as_slice-stmts.result.now c.loop-stmt.stmt-index
    c.loop-stmt.frame.next (record { slots = framed c.loop-stmt.frame.locals.items (slots_of c.args.here.now.slots.now); over = c.loop-stmt.frame.over }) c.loop-stmt.labels.due (progress c.loop-stmt.labels) (progress c.walk_last.new.labels) _
    c.loop-stmt-test.false e c.loop-stmt.invariant.marks
    ∙ rw c.as_slice-stmts.ensures (ap (λ z. with_marks z (progress c.args.labels.now)) (sym (block_by_parts (plain c.args.here.now.returns) c.args.here.now.next (stand c.args.here.now) c.args.labels.now.due c.args.gives c.args.block.now))))
    (rw c.deref.ensures.value at c.walk_last.ensures.marks)

pub walk_block-returns-clause-due : goal.walk_block-returns-clause-due
walk_block-returns-clause-due t c = on_ok_weaker c.walk_last.result (λ e.
    due_done (plain c.args.here.now.returns) c.args.gives (last_end (option_map view_expr (out-Block c.args.block.now).last)) c.as_slice-stmts.result.now c.loop-stmt.stmt-index
    c.args.here.now.returns c.loop-stmt.labels.due c.walk_last.new.labels.due _ c.loop-stmt-test.false e c.loop-stmt.invariant.due
    ∙ rw c.as_slice-stmts.ensures (sym (block_due_by_parts c.args.here.now.returns c.args.gives c.args.block.now c.args.labels.now.due)))
    c.walk_last.ensures.due

-- ---- statements

pub walk_return-returns-clause-marks : goal.walk_return-returns-clause-marks
walk_return-returns-clause-marks t c = on_ok_weaker c.put_return.result (λ e.
    return_by_parts (plain c.args.here.now.returns) c.args.value.now c.args.here.now.next (stand c.args.here.now) c.args.labels.now.due c.walk_value.new.labels.due
    (progress c.args.labels.now) (progress c.walk_value.new.labels) (progress c.put_return.new.labels)
    c.if-not-here.false c.in_ok-walk_value.ensures.marks c.in_ok-walk_value.ensures.due e) c.put_return.ensures.marks

pub walk_turns-returns-clause-marks : goal.walk_turns-returns-clause-marks
walk_turns-returns-clause-marks t c = on_ok_weaker c.end_count.result (λ e.
    turns_by_parts (plain c.args.here.now.returns) (view_block c.args.block.now) c.args.name.0 c.args.here.now.next (stand c.args.here.now) c.args.labels.now.due
    c.in_ok-next.next _ c.begin_count.new.labels.due c.walk_block.new.labels.due
    (progress c.args.labels.now) (progress c.begin_count.new.labels) (progress c.walk_block.new.labels) (progress c.end_count.new.labels)
    c.in_ok-next.ensures (ap (λ (y : Ty). with_slot (local c.args.name.0 c.args.here.now.next y) (stand c.args.here.now)) of_int)
    c.in_ok-begin_count.ensures.marks c.in_ok-begin_count.ensures.due c.in_ok-walk_block.ensures.marks c.in_ok-walk_block.ensures.due e) c.end_count.ensures.marks
