-- Whether a part moves a local, by its own parts.
use Rattle.std.proofs.Common.{◌≡◌, ℕ, List, [], ◌∷◌, refl, ap, ◌∙◌}
use Rattle.std.specs.Prelude.{Bool, ◌||◌, Option, Some, None, map, option_map}
use Rattle.vale_base.specs.declared.spot.Spot.{Spot}
use Rattle.vale_rules_spec.specs.Types as y
use Rattle.vale_rules_spec.specs.Typed as t
use Rattle.vale_syntax.specs.View.{listed}
use Rattle.vale_core.specs.declared.tree.Expr.{Expr, out-Expr}
use Rattle.vale_core.specs.declared.tree.Link.{Link, out-Link}
use Rattle.vale_core.specs.declared.tree.ElseIf.{ElseIf, out-ElseIf}
use Rattle.vale_core.specs.declared.tree.Block.{Block, out-Block}
use Rattle.vale_core.specs.View.{view_seen, view_expr, view_node, view_stmt, view_block, view_else_if, view_link, stmts_of, last_end, return_of}
use Rattle.vale_core.proofs.ViewLaws as v
use Rattle.vale_core.proofs.PartLaws.{of_out_expr, of_out_link, of_out_block, of_out_else_if}
use Rattle.vale_core.proofs.ReturnLaws.{or_or}
use Rattle.vale_rules_spec.specs.Owned as o
use Rattle.vale_owner.specs.Moves.{link_moves, else_if_moves, else_ifs_move}

abbrev is_self_node : ℕ → t.Node → Bool
is_self_node self node = o.is_self self (t.expr (record { value = y.void; view = y.blind; place = None }) node)

self_node : (self : ℕ) (x : y.Seen) (node : t.Node) → o.is_self self (t.expr x node) ≡ is_self_node self node
self_node self x (t.name n is_outer is_moved) = refl
self_node self x node = refl

pub self_by_parts : (self : ℕ) (e : Expr) → o.is_self self (view_expr e) ≡ is_self_node self (view_node (out-Expr e).node)
self_by_parts self e = ap (o.is_self self) (of_out_expr e) ∙ self_node self (view_seen (out-Expr e).seen) (view_node (out-Expr e).node)

module _ (self : ℕ) where
  pub expr_by_parts : (e : Expr) → o.expr_moves self (view_expr e) ≡ o.node_moves self (view_node (out-Expr e).node)
  expr_by_parts e = ap (o.expr_moves self) (of_out_expr e)

  pub link_by_parts : (l : Link) → link_moves self (view_link l) ≡ o.expr_moves self (view_expr (out-Link l).operand)
  link_by_parts l = ap (link_moves self) (of_out_link l)

  pub links_first : (l : t.Link) (ls : t.Links) → o.links_move self (t.more_links l ls) ≡ (link_moves self l || o.links_move self ls)
  links_first (t.link x at op e) ls = refl

  pub else_if_by_parts : (e : ElseIf) → else_if_moves self (view_else_if e) ≡ (o.expr_moves self (view_expr (out-ElseIf e).condition) || o.block_moves self (view_block (out-ElseIf e).block))
  else_if_by_parts e = ap (else_if_moves self) (of_out_else_if e)

  pub elses_by_parts : (es : List t.ElseIf) (end : t.Elses) → o.elses_move self (listed t.more_elses es end) ≡ (else_ifs_move self es || o.elses_move self end)
  elses_by_parts [] end = refl
  elses_by_parts (t.else_if at c b ∷ es) end =
      ap (λ z. (o.expr_moves self c || o.block_moves self b) || z) (elses_by_parts es end) ∙ or_or (o.expr_moves self c || o.block_moves self b) (else_ifs_move self es) (o.elses_move self end)

  stmts_by_parts : (ss : List t.Stmt) (end : t.Stmts) → o.stmts_move self (listed t.more_stmts ss end) ≡ (o.stmts_move self (listed t.more_stmts ss t.no_stmts) || o.stmts_move self end)
  stmts_by_parts [] end = refl
  stmts_by_parts (s ∷ ss) end =
      ap (λ z. o.stmt_moves self s || z) (stmts_by_parts ss end) ∙ or_or (o.stmt_moves self s) (o.stmts_move self (listed t.more_stmts ss t.no_stmts)) (o.stmts_move self end)

  pub block_by_parts : (b : Block) → o.block_moves self (view_block b) ≡ (o.stmts_move self (stmts_of (map view_stmt (out-Block b).stmts) None) || o.stmts_move self (last_end (option_map view_expr (out-Block b).last)))
  block_by_parts b = ap (o.block_moves self) (of_out_block b) ∙ stmts_by_parts (map view_stmt (out-Block b).stmts) (last_end (option_map view_expr (out-Block b).last))

  pub return_by_parts : (at : Spot) (e : Option t.Expr) → o.stmt_moves self (return_of at e) ≡ o.stmts_move self (last_end e)
  return_by_parts at None = refl
  return_by_parts at (Some e) = refl

pub ruleset selves = (self_by_parts, v.of_set, v.of_chain, v.of_unary, v.of_steps, v.of_number, v.of_quote, v.of_truth, v.of_name, v.of_call, v.of_paren, v.of_elements, v.of_isolate, v.of_form)

pub ruleset exprs = (expr_by_parts)

pub ruleset nodes = (v.of_set, v.of_chain, v.of_unary, v.of_steps, v.of_number, v.of_quote, v.of_truth, v.of_name, v.of_call, v.of_paren, v.of_elements, v.of_isolate, v.of_form)

pub ruleset parts = (link_by_parts, else_if_by_parts)

pub ruleset lists = (links_first)

pub ruleset steps = (v.of_field, v.of_method, v.of_index)

pub ruleset forms = (elses_by_parts, v.of_if, v.of_pure, v.of_parallel_range, v.of_parallel_each)

pub ruleset blocks = (block_by_parts)

pub ruleset stmts = (return_by_parts, v.of_declare, v.of_destructure, v.of_return, v.of_while, v.of_foreach, v.of_form_stmt, v.of_express)
