-- Whether a part takes a local away, by its own parts.
use Rattle.std.proofs.Common.{◌≡◌, ℕ, List, [], ◌∷◌, refl, ap, ◌∙◌, rules, sym}
use Rattle.std.specs.Prelude.{Bool, true, false, ◌||◌, Option, None, map, option_map}
use Rattle.vale_base.specs.declared.spot.Spot.{Spot}
use Rattle.vale_syntax.specs.declared.tree.Expr.{Expr, the_lemmas}
use Rattle.vale_syntax.specs.declared.tree.Block.{Block, out-Block}
use Rattle.vale_syntax.specs.declared.tree.ElseIf.{ElseIf, out-ElseIf}
use Rattle.vale_syntax.specs.declared.tree.Link.{Link, out-Link}
use Rattle.vale_syntax.specs.declared.tree.Form.TheVariants as f
use Rattle.vale_syntax.specs.Tree as t
use Rattle.vale_syntax.specs.View.{listed, view_expr, view_form, view_stmt, view_block, view_else_if, view_link, elses_of, else_end, stmts_of, last_end}
use Rattle.vale_rules_spec.specs.Takes.{takes, link_takes, form_takes, else_if_takes, elses_take, block_takes, stmts_take, stmt_takes}
use Rattle.vale_syntax.proofs.ViewLaws as v
use Rattle.vale_syntax.proofs.PartLaws.{of_out_block, of_out_else_if, of_out_link}

or_or : (a b c : Bool) → (a || (b || c)) ≡ ((a || b) || c)
or_or true b c = refl
or_or false b c = refl

module _ (n : ℕ) where
  pub link_by_parts : (l : Link) → link_takes n (view_link l) ≡ takes n true (view_expr (out-Link l).operand)
  link_by_parts l = ap (link_takes n) (of_out_link l)

  pub else_if_by_parts : (e : ElseIf) → else_if_takes n (view_else_if e) ≡ (takes n true (view_expr (out-ElseIf e).condition) || block_takes n (view_block (out-ElseIf e).block))
  else_if_by_parts e = ap (else_if_takes n) (of_out_else_if e)

  stmts_by_parts : (ss : List t.Stmt) (end : t.Stmts) → stmts_take n (listed t.more_stmts ss end) ≡ (stmts_take n (listed t.more_stmts ss t.no_stmts) || stmts_take n end)
  stmts_by_parts [] end = refl
  stmts_by_parts (s ∷ ss) end = ap (λ b. stmt_takes n s || b) (stmts_by_parts ss end) ∙ or_or (stmt_takes n s) (stmts_take n (listed t.more_stmts ss t.no_stmts)) (stmts_take n end)

  pub block_by_parts : (b : Block) → block_takes n (view_block b) ≡ (stmts_take n (stmts_of (map view_stmt (out-Block b).stmts) None) || stmts_take n (last_end (option_map view_expr (out-Block b).last)))
  block_by_parts b = ap (block_takes n) (of_out_block b) ∙ stmts_by_parts (map view_stmt (out-Block b).stmts) (last_end (option_map view_expr (out-Block b).last))

  elses_by_parts : (es : List t.ElseIf) (end : t.Elses) → elses_take n (listed t.more_elses es end) ≡ (elses_take n (listed t.more_elses es t.no_else) || elses_take n end)
  elses_by_parts [] end = refl
  elses_by_parts (e ∷ es) end = ap (λ b. else_if_takes n e || b) (elses_by_parts es end) ∙ or_or (else_if_takes n e) (elses_take n (listed t.more_elses es t.no_else)) (elses_take n end)

  branch_by_parts : (at : Spot) (c : t.Expr) (b : t.Block) (es : List t.ElseIf) (o : Option t.Block) → form_takes n (t.branch at c b (elses_of es o)) ≡ (((takes n true c || block_takes n b) || elses_take n (elses_of es None)) || elses_take n (else_end o))
  branch_by_parts at c b es o = ap (λ x. (takes n true c || block_takes n b) || x) (elses_by_parts es (else_end o)) ∙ or_or (takes n true c || block_takes n b) (elses_take n (elses_of es None)) (elses_take n (else_end o))

  pub if_by_parts : (at : Spot) (c : Expr) (b : Block) (es : List ElseIf) (o : Option Block) → form_takes n (view_form (f.If at c b es o)) ≡ (((takes n true (view_expr c) || block_takes n (view_block b)) || elses_take n (elses_of (map view_else_if es) None)) || elses_take n (else_end (option_map view_block o)))
  if_by_parts at c b es o = ap (form_takes n) (v.of_if at c b es o) ∙ branch_by_parts at (view_expr c) (view_block b) (map view_else_if es) (option_map view_block o)

  or_false : (a b d e : Bool) → false ≡ a → false ≡ b → false ≡ d → e ≡ (((a || b) || d) || e)
  or_false a b d e f g h = rw (← f, ← g, ← h) refl

  -- where no part before the last takes the local away, the last decides
  pub if_ends : (at : Spot) (c : Expr) (b : Block) (es ds : List ElseIf) (o : Option Block) (r : Bool) → ds ≡ es → false ≡ takes n true (view_expr c) → false ≡ block_takes n (view_block b) → false ≡ elses_take n (elses_of (map view_else_if ds) None) → r ≡ elses_take n (else_end (option_map view_block o)) → r ≡ form_takes n (view_form (f.If at c b es o))
  if_ends at c b es ds o r same first second each last =
      last ∙ or_false (takes n true (view_expr c)) (block_takes n (view_block b)) (elses_take n (elses_of (map view_else_if es) None)) (elses_take n (else_end (option_map view_block o))) first second (each ∙ ap (λ x. elses_take n (elses_of (map view_else_if x) None)) same) ∙ sym (if_by_parts at c b es o)

pub ruleset forms = (if_by_parts, v.of_pure, v.of_parallel_range, v.of_parallel_each)

pub ruleset steps = (v.of_field, v.of_method, v.of_index)

pub ruleset exprs = (v.of_set, v.of_chain, v.of_unary, v.of_steps, v.of_number, v.of_quote, v.of_truth, v.of_name, v.of_call, v.of_paren, v.of_array, v.of_iso, v.of_form)

pub ruleset stmts = (v.of_declare, v.of_destructure, v.of_return_nothing, v.of_return_value, v.of_while, v.of_foreach, v.of_form_stmt, v.of_express)
