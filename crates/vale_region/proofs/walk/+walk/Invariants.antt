use Rattle.std.proofs.Common.{◌≡◌, map, drop}
use Rattle.std.specs.Prelude.{None}
use Rattle.vale_rules_spec.specs.Judged.{first_of}
use Rattle.vale_core.specs.View.{view_expr, view_stmt, view_step, view_link, view_else_if, exprs_of, links_of, steps_of, elses_of, stmts_of}
use Rattle.vale_region_spec.specs.Regions.{exprs_faults, links_faults, steps_faults, elses_faults, stmts_faults}
use Rattle.vale_region_rules.specs.Items.{items_of}
use Rattle.vale_region.proofs.walk.+walk.Given as goal

-- the first fault is that of what is left of the list

abbrev pub invariant-exprs_fault-loop-expr : goal.invariant-exprs_fault-loop-expr
invariant-exprs_fault-loop-expr l = first_of (exprs_faults (items_of l.signatures) l.around (exprs_of (map view_expr (drop l.expr-index l.slice)))) ≡ first_of (exprs_faults (items_of l.signatures) l.around (exprs_of (map view_expr l.slice)))

abbrev pub invariant-links_fault-loop-link : goal.invariant-links_fault-loop-link
invariant-links_fault-loop-link l = first_of (links_faults (items_of l.signatures) l.around (links_of (map view_link (drop l.link-index l.slice)))) ≡ first_of (links_faults (items_of l.signatures) l.around (links_of (map view_link l.slice)))

abbrev pub invariant-steps_fault-loop-step : goal.invariant-steps_fault-loop-step
invariant-steps_fault-loop-step l = first_of (steps_faults (items_of l.signatures) l.around (steps_of (map view_step (drop l.step-index l.slice)))) ≡ first_of (steps_faults (items_of l.signatures) l.around (steps_of (map view_step l.slice)))

abbrev pub invariant-else_ifs_fault-loop-else_if : goal.invariant-else_ifs_fault-loop-else_if
invariant-else_ifs_fault-loop-else_if l = first_of (elses_faults (items_of l.signatures) l.around (elses_of (map view_else_if (drop l.else_if-index l.slice)) None)) ≡ first_of (elses_faults (items_of l.signatures) l.around (elses_of (map view_else_if l.slice) None))

abbrev pub invariant-stmts_fault-loop-stmt : goal.invariant-stmts_fault-loop-stmt
invariant-stmts_fault-loop-stmt l = first_of (stmts_faults (items_of l.signatures) l.around (stmts_of (map view_stmt (drop l.stmt-index l.slice)) None)) ≡ first_of (stmts_faults (items_of l.signatures) l.around (stmts_of (map view_stmt l.slice) None))
