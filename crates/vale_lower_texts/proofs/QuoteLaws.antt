-- The quotes of a part, by its own parts.
use Rattle.std.proofs.Common.{◌≡◌, ℕ, List, [], ◌∷◌, ◌++◌, refl, ap, sym, ◌∙◌, append_assoc, append-nil}
use Rattle.std.specs.Prelude.{Option, None, map, option_map}
use Rattle.vale_base.specs.declared.spot.Spot.{Spot}
use Rattle.vale_core.specs.declared.tree.Expr.{Expr, out-Expr}
use Rattle.vale_core.specs.declared.tree.Block.{Block, out-Block}
use Rattle.vale_core.specs.declared.tree.ElseIf.{ElseIf, out-ElseIf}
use Rattle.vale_core.specs.declared.tree.Link.{Link, out-Link}
use Rattle.vale_core.specs.declared.tree.Form.{Form}
use Rattle.vale_core.specs.declared.tree.Form.TheVariants as f
use Rattle.vale_rules_spec.specs.Typed as t
use Rattle.vale_syntax.specs.View.{listed}
use Rattle.vale_core.specs.View.{view_expr, view_node, view_form, view_stmt, view_block, view_else_if, view_link, elses_of, else_end, stmts_of, last_end}
use Rattle.vale_core.proofs.ViewLaws as v
use Rattle.vale_lowering_objects.specs.Quotes.{expr_quotes, node_quotes, links_quotes, form_quotes, elses_quotes, block_quotes, stmts_quotes, stmt_quotes}
use Rattle.vale_core.proofs.PartLaws.{of_out_expr, of_out_link, of_out_else_if, of_out_block}
use Rattle.vale_lower_texts.specs.Parts.{link_quotes, else_if_quotes}

pub expr_by_parts : (e : Expr) → expr_quotes (view_expr e) ≡ node_quotes (view_node (out-Expr e).node)
expr_by_parts e = ap expr_quotes (of_out_expr e)

pub link_by_parts : (l : Link) → link_quotes (view_link l) ≡ expr_quotes (view_expr (out-Link l).operand)
link_by_parts l = ap link_quotes (of_out_link l)

pub else_if_by_parts : (e : ElseIf) → else_if_quotes (view_else_if e) ≡ expr_quotes (view_expr (out-ElseIf e).condition) ++ block_quotes (view_block (out-ElseIf e).block)
else_if_by_parts e = ap else_if_quotes (of_out_else_if e)

-- ---- lists, one part at a time

pub link_first : (l : t.Link) (ls : t.Links) → links_quotes (t.more_links l ls) ≡ link_quotes l ++ links_quotes ls
link_first (t.link s at op e) ls = refl

pub else_if_first : (e : t.ElseIf) (es : t.Elses) → elses_quotes (t.more_elses e es) ≡ else_if_quotes e ++ elses_quotes es
else_if_first (t.else_if at c b) es = refl

pub stmts_by_parts : (ss : List t.Stmt) (end : t.Stmts) → stmts_quotes (listed t.more_stmts ss end) ≡ stmts_quotes (listed t.more_stmts ss t.no_stmts) ++ stmts_quotes end
stmts_by_parts [] end = refl
stmts_by_parts (s ∷ ss) end =
    ap (λ z. stmt_quotes s ++ z) (stmts_by_parts ss end) ∙ sym (append_assoc (stmt_quotes s) (stmts_quotes (listed t.more_stmts ss t.no_stmts)) (stmts_quotes end))

pub block_by_parts : (b : Block) → block_quotes (view_block b) ≡ stmts_quotes (stmts_of (map view_stmt (out-Block b).stmts) None) ++ stmts_quotes (last_end (option_map view_expr (out-Block b).last))
block_by_parts b = ap block_quotes (of_out_block b) ∙ stmts_by_parts (map view_stmt (out-Block b).stmts) (last_end (option_map view_expr (out-Block b).last))

pub elses_by_parts : (es : List t.ElseIf) (end : t.Elses) → elses_quotes (listed t.more_elses es end) ≡ elses_quotes (listed t.more_elses es t.no_else) ++ elses_quotes end
elses_by_parts [] end = refl
elses_by_parts (e ∷ es) end =
    else_if_first e (listed t.more_elses es end) ∙ ap (λ z. else_if_quotes e ++ z) (elses_by_parts es end)
    ∙ sym (append_assoc (else_if_quotes e) (elses_quotes (listed t.more_elses es t.no_else)) (elses_quotes end))
    ∙ ap (λ z. z ++ elses_quotes end) (sym (else_if_first e (listed t.more_elses es t.no_else)))

pub if_by_parts : (at : Spot) (c : Expr) (b : Block) (es : List ElseIf) (o : Option Block) → form_quotes (view_form (f.If at c b es o)) ≡ (expr_quotes (view_expr c) ++ block_quotes (view_block b)) ++ (elses_quotes (elses_of (map view_else_if es) None) ++ elses_quotes (else_end (option_map view_block o)))
if_by_parts at c b es o = ap form_quotes (v.of_if at c b es o) ∙ ap (λ z. (expr_quotes (view_expr c) ++ block_quotes (view_block b)) ++ z) (elses_by_parts (map view_else_if es) (else_end (option_map view_block o)))

pub by_if : (x : Form) (at : Spot) (c : Expr) (b : Block) (es : List ElseIf) (o : Option Block) (t0 t1 t2 t3 t4 : List (List ℕ)) → x ≡ f.If at c b es o
    → t1 ≡ t0 ++ expr_quotes (view_expr c) → t2 ≡ t1 ++ block_quotes (view_block b) → t3 ≡ t2 ++ elses_quotes (elses_of (map view_else_if es) None) → t4 ≡ t3 ++ elses_quotes (else_end (option_map view_block o))
    → t4 ≡ t0 ++ form_quotes (view_form x)
by_if x at c b es o t0 t1 t2 t3 t4 ex e1 e2 e3 e4 =
    let qa : List (List ℕ) = expr_quotes (view_expr c) in
    let qb : List (List ℕ) = block_quotes (view_block b) in
    let qc : List (List ℕ) = elses_quotes (elses_of (map view_else_if es) None) in
    let qd : List (List ℕ) = elses_quotes (else_end (option_map view_block o)) in
    e4 ∙ (ap (λ (z : List (List ℕ)). z ++ qd) (e3 ∙ ap (λ (z : List (List ℕ)). z ++ qc) (e2 ∙ ap (λ (z : List (List ℕ)). z ++ qb) e1))
    ∙ (append_assoc ((t0 ++ qa) ++ qb) qc qd ∙ (ap (λ (z : List (List ℕ)). z ++ (qc ++ qd)) (append_assoc t0 qa qb) ∙ (append_assoc t0 (qa ++ qb) (qc ++ qd)
    ∙ ap (λ (z : List (List ℕ)). t0 ++ z) (sym (ap (λ (y : Form). form_quotes (view_form y)) ex ∙ if_by_parts at c b es o))))))

pub ruleset exprs = (expr_by_parts)

pub ruleset nodes = (v.of_set, v.of_chain, v.of_unary, v.of_steps, v.of_number, v.of_quote, v.of_truth, v.of_name, v.of_call, v.of_paren, v.of_elements, v.of_isolate, v.of_form, append_assoc, append-nil)

pub ruleset lists = (append_assoc, append-nil, link_first, else_if_first)

pub ruleset parts = (link_by_parts, else_if_by_parts, block_by_parts, if_by_parts, v.of_pure, v.of_parallel_range, v.of_parallel_each, append_assoc, append-nil)

pub ruleset stmts = (v.of_declare, v.of_destructure, v.of_return_nothing, v.of_return_value, v.of_while, v.of_foreach, v.of_form_stmt, v.of_express, append_assoc, append-nil)

pub ruleset steps = (v.of_field, v.of_method, v.of_index, append_assoc, append-nil)
