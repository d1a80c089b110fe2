use Rattle.std.proofs.Common.{◌≡◌, ◌-◌, map, drop, take, None, length}
use Rattle.vale_core.specs.View.{view_expr, view_step, view_stmt, view_else_if, view_link, exprs_of, links_of, steps_of, stmts_of}
use Rattle.vale_lower_looks.specs.Comes.{exprs_come, links_come, steps_come, stmts_come}
use Rattle.vale_lower_looks.specs.Parts.{else_ifs_come}
use Rattle.vale_lower_looks.proofs.comes.+comes.Given as goal

-- it is up to what is left of the list

abbrev pub invariant-exprs_come-loop-expr : goal.invariant-exprs_come-loop-expr
invariant-exprs_come-loop-expr l = exprs_come (exprs_of (map view_expr (drop l.expr-index l.exprs))) ≡ exprs_come (exprs_of (map view_expr l.exprs))

abbrev pub invariant-links_come-loop-link : goal.invariant-links_come-loop-link
invariant-links_come-loop-link l = links_come (links_of (map view_link (drop l.link-index l.slice))) ≡ links_come (links_of (map view_link l.slice))

abbrev pub invariant-steps_come-loop-step : goal.invariant-steps_come-loop-step
invariant-steps_come-loop-step l = steps_come (steps_of (map view_step (drop l.step-index l.slice))) ≡ steps_come (steps_of (map view_step l.slice))

abbrev pub invariant-stmts_come-loop-stmt : goal.invariant-stmts_come-loop-stmt
invariant-stmts_come-loop-stmt l = stmts_come (stmts_of (map view_stmt (drop l.stmt-index l.stmts)) None) ≡ stmts_come (stmts_of (map view_stmt l.stmts) None)

abbrev pub invariant-else_ifs_come-loop-back : goal.invariant-else_ifs_come-loop-back
invariant-else_ifs_come-loop-back l = else_ifs_come (map view_else_if (take (length l.slice - l.back) l.slice)) l.comes ≡ else_ifs_come (map view_else_if l.slice) l.initial.rest
