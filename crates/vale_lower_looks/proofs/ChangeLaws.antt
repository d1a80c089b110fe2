-- Whether a part changes a local, by its own parts.
use Rattle.std.proofs.Common.{◌≡◌, ℕ, List, [], ◌∷◌, refl, ap, sym, ◌∙◌}
use Rattle.std.specs.Prelude.{Bool, true, false, ◌||◌, Option, None, map, option_map}
use Rattle.vale_base.specs.declared.spot.Spot.{Spot}
use Rattle.vale_core.specs.declared.tree.Expr.{Expr, out-Expr}
use Rattle.vale_core.specs.declared.tree.Block.{Block, out-Block}
use Rattle.vale_core.specs.declared.tree.ElseIf.{ElseIf, out-ElseIf}
use Rattle.vale_core.specs.declared.tree.Link.{Link, out-Link}
use Rattle.vale_core.specs.declared.tree.Form.{Form}
use Rattle.vale_core.specs.declared.tree.Form.TheVariants as f
use Rattle.vale_core.specs.declared.tree.Stmt.{Stmt}
use Rattle.vale_rules_spec.specs.Typed as t
use Rattle.vale_syntax.specs.View.{listed}
use Rattle.vale_core.specs.View.{view_seen, view_expr, view_node, view_form, view_stmt, view_block, view_else_if, view_link, elses_of, else_end, stmts_of, last_end}
use Rattle.vale_core.proofs.ViewLaws as v
use Rattle.vale_core.proofs.PartLaws.{of_out_expr, of_out_link, of_out_else_if, of_out_block}
use Rattle.vale_lowering_objects.specs.Changes.{is_local, expr_changes, node_changes, links_change, elses_change, form_changes, block_changes, stmts_change, stmt_changes}
use Rattle.vale_lower_looks.specs.Parts.{link_changes, else_if_changes}

pub or_or : (a b c : Bool) → (a || (b || c)) ≡ ((a || b) || c)
or_or true b c = refl
or_or false b c = refl

module _ (l : ℕ) where
  pub local_by_parts : (e : Expr) → is_local l (view_expr e) ≡ is_local l (t.expr (view_seen (out-Expr e).seen) (view_node (out-Expr e).node))
  local_by_parts e = ap (λ z. is_local l z) (of_out_expr e)

  pub expr_by_parts : (e : Expr) → expr_changes l (view_expr e) ≡ node_changes l (view_node (out-Expr e).node)
  expr_by_parts e = ap (λ z. expr_changes l z) (of_out_expr e)

  pub link_by_parts : (k : Link) → link_changes l (view_link k) ≡ expr_changes l (view_expr (out-Link k).operand)
  link_by_parts k = ap (λ z. link_changes l z) (of_out_link k)

  pub link_first : (k : t.Link) (ks : t.Links) → links_change l (t.more_links k ks) ≡ (link_changes l k || links_change l ks)
  link_first (t.link x at op e) ks = refl

  pub else_if_by_parts : (e : ElseIf) → else_if_changes l (view_else_if e) ≡ (expr_changes l (view_expr (out-ElseIf e).condition) || block_changes l (view_block (out-ElseIf e).block))
  else_if_by_parts e = ap (λ z. else_if_changes l z) (of_out_else_if e)

  pub else_if_first : (e : t.ElseIf) (es : t.Elses) → elses_change l (t.more_elses e es) ≡ (else_if_changes l e || elses_change l es)
  else_if_first (t.else_if at c b) es = refl

  stmts_by_parts : (ss : List t.Stmt) (end : t.Stmts) → stmts_change l (listed t.more_stmts ss end) ≡ (stmts_change l (listed t.more_stmts ss t.no_stmts) || stmts_change l end)
  stmts_by_parts [] end = refl
  stmts_by_parts (s ∷ ss) end =
      ap (λ z. stmt_changes l s || z) (stmts_by_parts ss end) ∙ or_or (stmt_changes l s) (stmts_change l (listed t.more_stmts ss t.no_stmts)) (stmts_change l end)

  pub block_by_parts : (b : Block) → block_changes l (view_block b) ≡ (stmts_change l (stmts_of (map view_stmt (out-Block b).stmts) None) || stmts_change l (last_end (option_map view_expr (out-Block b).last)))
  block_by_parts b = ap (λ z. block_changes l z) (of_out_block b) ∙ stmts_by_parts (map view_stmt (out-Block b).stmts) (last_end (option_map view_expr (out-Block b).last))

  elses_by_parts : (es : List t.ElseIf) (end : t.Elses) → elses_change l (listed t.more_elses es end) ≡ (elses_change l (listed t.more_elses es t.no_else) || elses_change l end)
  elses_by_parts [] end = refl
  elses_by_parts (e ∷ es) end =
      else_if_first e (listed t.more_elses es end)
      ∙ ap (λ z. else_if_changes l e || z) (elses_by_parts es end)
      ∙ or_or (else_if_changes l e) (elses_change l (listed t.more_elses es t.no_else)) (elses_change l end)
      ∙ ap (λ z. z || elses_change l end) (sym (else_if_first e (listed t.more_elses es t.no_else)))

  pub if_by_parts : (at : Spot) (c : Expr) (b : Block) (es : List ElseIf) (o : Option Block) → form_changes l (view_form (f.If at c b es o)) ≡ (((expr_changes l (view_expr c) || block_changes l (view_block b)) || elses_change l (elses_of (map view_else_if es) None)) || elses_change l (else_end (option_map view_block o)))
  if_by_parts at c b es o =
      ap (λ z. form_changes l z) (v.of_if at c b es o)
      ∙ ap (λ z. (expr_changes l (view_expr c) || block_changes l (view_block b)) || z) (elses_by_parts (map view_else_if es) (else_end (option_map view_block o)))
      ∙ or_or (expr_changes l (view_expr c) || block_changes l (view_block b)) (elses_change l (elses_of (map view_else_if es) None)) (elses_change l (else_end (option_map view_block o)))

  pub block_then : (b : Block) → stmts_change l (stmts_of (map view_stmt (out-Block b).stmts) None) ≡ true → block_changes l (view_block b) ≡ true
  block_then b e = block_by_parts b ∙ ap (λ z. z || stmts_change l (last_end (option_map view_expr (out-Block b).last))) e

  pub block_else : (b : Block) → stmts_change l (stmts_of (map view_stmt (out-Block b).stmts) None) ≡ false → block_changes l (view_block b) ≡ stmts_change l (last_end (option_map view_expr (out-Block b).last))
  block_else b e = block_by_parts b ∙ ap (λ z. z || stmts_change l (last_end (option_map view_expr (out-Block b).last))) e

  pub by_block_then : (b : Block) (xs : List Stmt) (k : Bool) → xs ≡ (out-Block b).stmts → k ≡ stmts_change l (stmts_of (map view_stmt xs) None) → k ≡ true → true ≡ block_changes l (view_block b)
  by_block_then b xs k ex ek et = sym (block_then b (ap (λ (z : List Stmt). stmts_change l (stmts_of (map view_stmt z) None)) (sym ex) ∙ (sym ek ∙ et)))

  pub by_block_else : (b : Block) (xs : List Stmt) (k r : Bool) → xs ≡ (out-Block b).stmts → k ≡ stmts_change l (stmts_of (map view_stmt xs) None) → k ≡ false → r ≡ stmts_change l (last_end (option_map view_expr (out-Block b).last)) → r ≡ block_changes l (view_block b)
  by_block_else b xs k r ex ek ef er = er ∙ sym (block_else b (ap (λ (z : List Stmt). stmts_change l (stmts_of (map view_stmt z) None)) (sym ex) ∙ (sym ek ∙ ef)))

  pub by_if : (x : Form) (at : Spot) (c : Expr) (b : Block) (es : List ElseIf) (o : Option Block) (kc kb ke ko r : Bool) → x ≡ f.If at c b es o
      → kc ≡ expr_changes l (view_expr c) → kb ≡ block_changes l (view_block b) → ke ≡ elses_change l (elses_of (map view_else_if es) None) → ko ≡ elses_change l (else_end (option_map view_block o))
      → r ≡ (((kc || kb) || ke) || ko) → r ≡ form_changes l (view_form x)
  by_if x at c b es o kc kb ke ko r ex ec eb ee eo er =
      er ∙ ap (λ (z : Bool). ((z || kb) || ke) || ko) ec ∙ ap (λ (z : Bool). ((expr_changes l (view_expr c) || z) || ke) || ko) eb
      ∙ ap (λ (z : Bool). ((expr_changes l (view_expr c) || block_changes l (view_block b)) || z) || ko) ee
      ∙ ap (λ (z : Bool). ((expr_changes l (view_expr c) || block_changes l (view_block b)) || elses_change l (elses_of (map view_else_if es) None)) || z) eo
      ∙ sym (ap (λ (z : Form). form_changes l (view_form z)) ex ∙ if_by_parts at c b es o)

pub ruleset exprs = (expr_by_parts, local_by_parts)

pub ruleset nodes = (v.of_set, v.of_chain, v.of_unary, v.of_steps, v.of_number, v.of_quote, v.of_truth, v.of_name, v.of_call, v.of_paren, v.of_elements, v.of_isolate, v.of_form, or_or)

pub ruleset links = (link_by_parts, else_if_by_parts)

pub ruleset lists = (link_first, else_if_first, or_or)

pub ruleset steps = (v.of_field, v.of_method, v.of_index)

pub ruleset forms = (if_by_parts, v.of_pure, v.of_parallel_range, v.of_parallel_each, or_or)

pub ruleset blocks = (block_by_parts)

pub ruleset stmts = (v.of_declare, v.of_destructure, v.of_return_nothing, v.of_return_value, v.of_while, v.of_foreach, v.of_form_stmt, v.of_express, or_or)
