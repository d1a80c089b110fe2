use Rattle.std.proofs.Common.{◌≡◌, ◌+◌, map, drop, take}
use Rattle.std.specs.Prelude.{option_map}
use Rattle.vale_core.specs.declared.tree.Block.{out-Block}
use Rattle.vale_core.specs.View.{view_ty, view_expr, view_stmt, view_else_if, view_link, exprs_of, links_of, stmts_of}
use Rattle.vale_lower_facts.specs.Marks.{args_marks, args_due, links_marks, links_due, stmts_marks, stmts_due}
use Rattle.vale_label_steps.specs.Progress.{progress, with_marks}
use Rattle.vale_label_steps.specs.Standing.{stand, framed, waited, slots_of, plain}
use Rattle.vale_lower_labels.specs.Sides.{sides_marks, sides_due}
use Rattle.vale_lower_labels.proofs.walk.+walk.Given as goal

-- the labels so far, and after them those of what is left

abbrev pub invariant-walk_args-loop-at : goal.invariant-walk_args-loop-at
invariant-walk_args-loop-at l = record {
  next : l.next ≡ l.here.next + l.at;
  marks : with_marks (args_marks (plain l.here.returns) (exprs_of (map view_expr (drop l.at l.args))) l.next (record { slots = waited (map view_expr (take l.at l.args)) l.here.next (slots_of l.here.slots.now); over = l.here.over }) l.labels.due) (progress l.labels)
      ≡ with_marks (args_marks (plain l.here.returns) (exprs_of (map view_expr l.args)) l.here.next (stand l.here) l.initial.labels.due) (progress l.initial.labels);
  due : args_due (exprs_of (map view_expr (drop l.at l.args))) l.labels.due ≡ args_due (exprs_of (map view_expr l.args)) l.initial.labels.due;
}

abbrev pub invariant-walk_links-loop-link : goal.invariant-walk_links-loop-link
invariant-walk_links-loop-link l = record {
  marks : with_marks (links_marks (plain l.here.returns) (view_ty l.held) (links_of (map view_link (drop l.link-index l.slice))) l.here.next (stand l.here) l.labels.due) (progress l.labels)
      ≡ with_marks (links_marks (plain l.here.returns) (view_ty l.ty) (links_of (map view_link l.slice)) l.here.next (stand l.here) l.initial.labels.due) (progress l.initial.labels);
  due : links_due (links_of (map view_link (drop l.link-index l.slice))) l.labels.due ≡ links_due (links_of (map view_link l.slice)) l.initial.labels.due;
}

abbrev pub invariant-walk_else_ifs-loop-else_if : goal.invariant-walk_else_ifs-loop-else_if
invariant-walk_else_ifs-loop-else_if l = record {
  marks : with_marks (sides_marks (plain l.here.returns) l.gives (map view_else_if (drop l.else_if-index l.slice)) l.here.next (stand l.here) l.labels.due) (progress l.labels)
      ≡ with_marks (sides_marks (plain l.here.returns) l.gives (map view_else_if l.slice) l.here.next (stand l.here) l.initial.labels.due) (progress l.initial.labels);
  due : sides_due (map view_else_if (drop l.else_if-index l.slice)) l.labels.due ≡ sides_due (map view_else_if l.slice) l.initial.labels.due;
}

abbrev pub invariant-walk_block-loop-stmt : goal.invariant-walk_block-loop-stmt
invariant-walk_block-loop-stmt l = record {
  marks : with_marks (stmts_marks (plain l.here.returns) l.gives (stmts_of (map view_stmt (drop l.stmt-index l.stmts)) (option_map view_expr (out-Block l.block).last)) l.frame.next (record { slots = framed l.frame.locals.items (slots_of l.here.slots.now); over = l.frame.over }) l.labels.due) (progress l.labels)
      ≡ with_marks (stmts_marks (plain l.here.returns) l.gives (stmts_of (map view_stmt l.stmts) (option_map view_expr (out-Block l.block).last)) l.here.next (stand l.here) l.initial.labels.due) (progress l.initial.labels);
  due : stmts_due l.here.returns l.gives (stmts_of (map view_stmt (drop l.stmt-index l.stmts)) (option_map view_expr (out-Block l.block).last)) l.labels.due
      ≡ stmts_due l.here.returns l.gives (stmts_of (map view_stmt l.stmts) (option_map view_expr (out-Block l.block).last)) l.initial.labels.due;
}
