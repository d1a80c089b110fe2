-- What is set, by its parts.
use Rattle.std.proofs.Common.{◌≡◌, ap}
use Rattle.vale_core.specs.declared.tree.Expr.{Expr, out-Expr}
use Rattle.vale_core.specs.View.{view_expr, view_node}
use Rattle.vale_core.proofs.ViewLaws as v
use Rattle.vale_core.proofs.PartLaws.{of_out_expr}
use Rattle.vale_lower_stmts.specs.Placed.{place_of, place_of_node, set_local, set_local_in}

pub place_by_parts : (e : Expr) → place_of (view_expr e) ≡ place_of_node (view_node (out-Expr e).node)
place_by_parts e = ap place_of (of_out_expr e)

pub set_by_parts : (e : Expr) → set_local (view_expr e) ≡ set_local_in (view_node (out-Expr e).node)
set_by_parts e = ap set_local (of_out_expr e)

pub ruleset nodes = (place_by_parts, v.of_set, v.of_chain, v.of_unary, v.of_steps, v.of_number, v.of_quote, v.of_truth, v.of_name, v.of_call, v.of_paren, v.of_elements, v.of_isolate, v.of_form)

pub ruleset sets = (set_by_parts, v.of_set, v.of_chain, v.of_unary, v.of_steps, v.of_number, v.of_quote, v.of_truth, v.of_name, v.of_call, v.of_paren, v.of_elements, v.of_isolate, v.of_form)
