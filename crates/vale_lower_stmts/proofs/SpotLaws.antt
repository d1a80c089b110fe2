-- Spots, by parts.
use Rattle.std.proofs.Common.{◌≡◌, ap}
use Rattle.vale_base.specs.declared.spot.Spot.{Spot}
use Rattle.vale_rules_spec.specs.Typed as t
use Rattle.vale_core.specs.declared.tree.Expr.{Expr, out-Expr}
use Rattle.vale_core.specs.declared.tree.Link.{Link, out-Link}
use Rattle.vale_core.specs.View.{view_expr, view_node, view_seen, view_link}
use Rattle.vale_core.proofs.ViewLaws as v
use Rattle.vale_core.proofs.PartLaws.{of_out_expr, of_out_link}
use Rattle.vale_model.specs.Expressions.{expr_spot, links_spot}

pub spot_by_parts : (e : Expr) → expr_spot (view_expr e) ≡ expr_spot (t.expr (view_seen (out-Expr e).seen) (view_node (out-Expr e).node))
spot_by_parts e = ap expr_spot (of_out_expr e)

pub link_spot : (at : Spot) (l : Link) (ls : t.Links) → links_spot at (t.more_links (view_link l) ls) ≡ links_spot (out-Link l).at ls
link_spot at l ls = ap (λ z. links_spot at (t.more_links z ls)) (of_out_link l)

pub ruleset nodes = (spot_by_parts, v.of_set, v.of_chain, v.of_unary, v.of_steps, v.of_number, v.of_quote, v.of_truth, v.of_name, v.of_call, v.of_paren, v.of_elements, v.of_isolate, v.of_form)

pub ruleset links = (link_spot)

pub ruleset steps = (v.of_field, v.of_method, v.of_index)

pub ruleset forms = (v.of_if, v.of_pure, v.of_parallel_range, v.of_parallel_each)
