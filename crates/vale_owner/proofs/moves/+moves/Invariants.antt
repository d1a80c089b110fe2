use Rattle.std.proofs.Common.{◌≡◌, map, drop}
use Rattle.std.specs.Prelude.{None}
use Rattle.vale_core.specs.View.{view_expr, view_stmt, view_step, view_link, view_else_if, exprs_of, links_of, steps_of, stmts_of}
use Rattle.vale_rules_spec.specs.Owned.{exprs_move, links_move, steps_move, stmts_move}
use Rattle.vale_owner.specs.Moves.{else_ifs_move}
use Rattle.vale_owner.proofs.moves.+moves.Given as goal

-- it is up to what is left of the list

abbrev pub invariant-exprs_move-loop-expr : goal.invariant-exprs_move-loop-expr
invariant-exprs_move-loop-expr l = exprs_move l.local.0 (exprs_of (map view_expr (drop l.expr-index l.slice))) ≡ exprs_move l.local.0 (exprs_of (map view_expr l.slice))

abbrev pub invariant-links_move-loop-link : goal.invariant-links_move-loop-link
invariant-links_move-loop-link l = links_move l.local.0 (links_of (map view_link (drop l.link-index l.slice))) ≡ links_move l.local.0 (links_of (map view_link l.slice))

abbrev pub invariant-steps_move-loop-step : goal.invariant-steps_move-loop-step
invariant-steps_move-loop-step l = steps_move l.local.0 (steps_of (map view_step (drop l.step-index l.slice))) ≡ steps_move l.local.0 (steps_of (map view_step l.slice))

abbrev pub invariant-else_ifs_move-loop-else_if : goal.invariant-else_ifs_move-loop-else_if
invariant-else_ifs_move-loop-else_if l = else_ifs_move l.local.0 (map view_else_if (drop l.else_if-index l.slice)) ≡ else_ifs_move l.local.0 (map view_else_if l.slice)

abbrev pub invariant-stmts_move-loop-stmt : goal.invariant-stmts_move-loop-stmt
invariant-stmts_move-loop-stmt l = stmts_move l.local.0 (stmts_of (map view_stmt (drop l.stmt-index l.slice)) None) ≡ stmts_move l.local.0 (stmts_of (map view_stmt l.slice) None)
