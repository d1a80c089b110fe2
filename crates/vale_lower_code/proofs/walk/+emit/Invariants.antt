use Rattle.std.proofs.Common.{◌≡◌, ◌+◌, ◌++◌, length, map, drop}
use Rattle.std.specs.Prelude.{option_map}
use Rattle.vale_core.specs.declared.tree.Block.{out-Block}
use Rattle.vale_core.specs.View.{view_expr, view_stmt, view_else_if, view_link, exprs_of, links_of, stmts_of}
use Rattle.vale_lowering.specs.Lowered.{args_code, links_code, stmts_code}
use Rattle.vale_lower_expr.specs.Entries.{entries, framed, awaited}
use Rattle.vale_lower_code.specs.Sides.{sides_code, sides_ends}
use Rattle.vale_lower_expr.specs.Surroundings.{view_around}
use Rattle.vale_lower_code.proofs.walk.+emit.Given as goal

-- the code so far, and after it that of what is left

abbrev pub invariant-emit_args-loop-at : goal.invariant-emit_args-loop-at
invariant-emit_args-loop-at l = record {
  next : l.next ≡ l.here.next + l.at;
  code : l.buffer.code.items ++ args_code (view_around l.here.around.now) (exprs_of (map view_expr (drop l.at l.args))) (length l.buffer.code.items) l.next (awaited l.here.next l.at (entries l.here.scope.now))
      ≡ l.initial.buffer.code.items ++ args_code (view_around l.here.around.now) (exprs_of (map view_expr l.args)) (length l.initial.buffer.code.items) l.here.next (entries l.here.scope.now);
}

abbrev pub invariant-emit_links-loop-link : goal.invariant-emit_links-loop-link
invariant-emit_links-loop-link l =
    l.buffer.code.items ++ links_code (view_around l.here.around.now) (links_of (map view_link (drop l.link-index l.slice))) (length l.buffer.code.items) l.here.next (entries l.here.scope.now)
    ≡ l.initial.buffer.code.items ++ links_code (view_around l.here.around.now) (links_of (map view_link l.slice)) (length l.initial.buffer.code.items) l.here.next (entries l.here.scope.now)

abbrev pub invariant-emit_else_ifs-loop-else_if : goal.invariant-emit_else_ifs-loop-else_if
invariant-emit_else_ifs-loop-else_if l = record {
  code : l.buffer.code.items ++ sides_code (view_around l.here.around.now) l.gives (map view_else_if (drop l.else_if-index l.slice)) 0 (length l.buffer.code.items) l.here.next (entries l.here.scope.now)
      ≡ l.initial.buffer.code.items ++ sides_code (view_around l.here.around.now) l.gives (map view_else_if l.slice) 0 (length l.initial.buffer.code.items) l.here.next (entries l.here.scope.now);
  ends : l.ends.items ++ sides_ends (view_around l.here.around.now) l.gives (map view_else_if (drop l.else_if-index l.slice)) (length l.buffer.code.items) l.here.next (entries l.here.scope.now)
      ≡ l.initial.ends.items ++ sides_ends (view_around l.here.around.now) l.gives (map view_else_if l.slice) (length l.initial.buffer.code.items) l.here.next (entries l.here.scope.now);
}

abbrev pub invariant-emit_block-loop-stmt : goal.invariant-emit_block-loop-stmt
invariant-emit_block-loop-stmt l =
    l.buffer.code.items ++ stmts_code (view_around l.here.around.now) l.gives (stmts_of (map view_stmt (drop l.stmt-index l.stmts)) (option_map view_expr (out-Block l.block).last)) (length l.buffer.code.items) l.to l.frame.next (framed l.frame.locals.items (entries l.here.scope.now))
    ≡ l.initial.buffer.code.items ++ stmts_code (view_around l.here.around.now) l.gives (stmts_of (map view_stmt l.stmts) (option_map view_expr (out-Block l.block).last)) (length l.initial.buffer.code.items) l.to l.here.next (entries l.here.scope.now)
