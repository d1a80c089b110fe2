use Rattle.std.proofs.Common.{◌≡◌, map, drop, None}
use Rattle.vale_core.specs.View.{view_stmt, view_else_if, stmts_of}
use Rattle.vale_rules_spec.specs.Returns.{stmts_return}
use Rattle.vale_rules_spec.specs.Sides.{each_returns}
use Rattle.vale_core.proofs.returned.+returned.Given as goal

-- it is up to what is left of the list

abbrev pub invariant-stmts_return-loop-stmt : goal.invariant-stmts_return-loop-stmt
invariant-stmts_return-loop-stmt l = stmts_return (stmts_of (map view_stmt (drop l.stmt-index l.stmts)) None) ≡ stmts_return (stmts_of (map view_stmt l.stmts) None)

abbrev pub invariant-each_returns-loop-else_if : goal.invariant-each_returns-loop-else_if
invariant-each_returns-loop-else_if l = each_returns (map view_else_if (drop l.else_if-index l.else_ifs)) ≡ each_returns (map view_else_if l.else_ifs)
