use Rattle.std.proofs.Common.{◌≡◌, ◌++◌, map, drop, None}
use Rattle.vale_core.specs.View.{view_expr, view_stmt, view_step, view_else_if, view_link, exprs_of, links_of, steps_of, elses_of, stmts_of}
use Rattle.vale_lowering_objects.specs.Quotes.{exprs_quotes, links_quotes, steps_quotes, elses_quotes, stmts_quotes}
use Rattle.vale_lower_texts.proofs.quotes.+quotes.Given as goal

-- the texts so far, and after them the quotes of what is left

abbrev pub invariant-add_exprs-loop-expr : goal.invariant-add_exprs-loop-expr
invariant-add_exprs-loop-expr l = l.texts ++ exprs_quotes (exprs_of (map view_expr (drop l.expr-index l.exprs))) ≡ l.initial.texts ++ exprs_quotes (exprs_of (map view_expr l.exprs))

abbrev pub invariant-add_links-loop-link : goal.invariant-add_links-loop-link
invariant-add_links-loop-link l = l.texts ++ links_quotes (links_of (map view_link (drop l.link-index l.slice))) ≡ l.initial.texts ++ links_quotes (links_of (map view_link l.slice))

abbrev pub invariant-add_else_ifs-loop-else_if : goal.invariant-add_else_ifs-loop-else_if
invariant-add_else_ifs-loop-else_if l = l.texts ++ elses_quotes (elses_of (map view_else_if (drop l.else_if-index l.slice)) None) ≡ l.initial.texts ++ elses_quotes (elses_of (map view_else_if l.slice) None)

abbrev pub invariant-add_stmts-loop-stmt : goal.invariant-add_stmts-loop-stmt
invariant-add_stmts-loop-stmt l = l.texts ++ stmts_quotes (stmts_of (map view_stmt (drop l.stmt-index l.stmts)) None) ≡ l.initial.texts ++ stmts_quotes (stmts_of (map view_stmt l.stmts) None)

abbrev pub invariant-add_steps-loop-step : goal.invariant-add_steps-loop-step
invariant-add_steps-loop-step l = l.texts ++ steps_quotes (steps_of (map view_step (drop l.step-index l.slice))) ≡ l.initial.texts ++ steps_quotes (steps_of (map view_step l.slice))
