use Rattle.std.proofs.Common.{◌≡◌, ◌++◌, take}
use Rattle.vale_syntax.specs.Canon.{rendered}
use Rattle.vale_syntax.specs.Layout.{each, mark, gap, new_line, lay_expr, lay_link, lay_step, lay_else_if, lay_stmt}
use Rattle.vale_syntax.specs.View.{view_expr, view_step, view_stmt, view_else_if, view_link}
use Rattle.vale_syntax.specs.declared.token.Sign.TheVariants.{Comma}
use Rattle.vale_printer.proofs.exprs.+exprs.Given as goal

abbrev pub invariant-all_args-loop-arg : goal.invariant-all_args-loop-arg
invariant-all_args-loop-arg l = l.text.items ≡ l.initial.text.items ++ rendered (each (λ x. mark Comma ++ gap ++ lay_expr l.names l.depth (view_expr x)) (take l.arg-index l.more))

abbrev pub invariant-all_else_ifs-loop-x : goal.invariant-all_else_ifs-loop-x
invariant-all_else_ifs-loop-x l = l.text.items ≡ l.initial.text.items ++ rendered (each (λ x. lay_else_if l.names l.depth (view_else_if x)) (take l.x-index l.else_ifs))

abbrev pub invariant-all_steps-loop-x : goal.invariant-all_steps-loop-x
invariant-all_steps-loop-x l = l.text.items ≡ l.initial.text.items ++ rendered (each (λ x. lay_step l.names l.depth (view_step x)) (take l.x-index l.steps))

abbrev pub invariant-all_stmts-loop-x : goal.invariant-all_stmts-loop-x
invariant-all_stmts-loop-x l = l.text.items ≡ l.initial.text.items ++ rendered (each (λ x. new_line l.depth ++ lay_stmt l.names l.depth (view_stmt x)) (take l.x-index l.stmts))

abbrev pub invariant-more_operands-loop-link : goal.invariant-more_operands-loop-link
invariant-more_operands-loop-link l = l.text.items ≡ l.initial.text.items ++ rendered (each (λ x. lay_link l.names l.depth (view_link x)) (take l.link-index l.links))
