use Rattle.std.proofs.Common.{◌≡◌, map, drop, None}
use Rattle.vale_core.specs.View.{view_expr, view_stmt, view_else_if, view_link, exprs_of, links_of, elses_of, stmts_of}
use Rattle.vale_served_spec.specs.Served.{exprs_are_served, links_are_served, elses_are_served, stmts_are_served}
use Rattle.vale_front.proofs.served.+served.Given as goal

-- it is up to what is left of the list

abbrev pub invariant-exprs_are_served-loop-expr : goal.invariant-exprs_are_served-loop-expr
invariant-exprs_are_served-loop-expr l = exprs_are_served (exprs_of (map view_expr (drop l.expr-index l.exprs))) ≡ exprs_are_served (exprs_of (map view_expr l.exprs))

abbrev pub invariant-links_are_served-loop-link : goal.invariant-links_are_served-loop-link
invariant-links_are_served-loop-link l = links_are_served (links_of (map view_link (drop l.link-index l.links))) ≡ links_are_served (links_of (map view_link l.links))

abbrev pub invariant-else_ifs_are_served-loop-else_if : goal.invariant-else_ifs_are_served-loop-else_if
invariant-else_ifs_are_served-loop-else_if l = elses_are_served (elses_of (map view_else_if (drop l.else_if-index l.else_ifs)) None) ≡ elses_are_served (elses_of (map view_else_if l.else_ifs) None)

abbrev pub invariant-stmts_are_served-loop-stmt : goal.invariant-stmts_are_served-loop-stmt
invariant-stmts_are_served-loop-stmt l = stmts_are_served (stmts_of (map view_stmt (drop l.stmt-index l.stmts)) None) ≡ stmts_are_served (stmts_of (map view_stmt l.stmts) None)
