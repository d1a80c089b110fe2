-- The array types that a part makes, by its own parts.
use Rattle.std.proofs.Common.{◌≡◌, ℕ, List, [], ◌∷◌, ◌++◌, refl, ap, sym, ◌∙◌, append_assoc}
use Rattle.std.specs.Prelude.{Option, None, map, option_map}
use Rattle.vale_base.specs.declared.spot.Spot.{Spot}
use Rattle.vale_core.specs.declared.tree.Expr.{Expr, out-Expr}
use Rattle.vale_core.specs.declared.tree.Block.{Block, out-Block}
use Rattle.vale_core.specs.declared.tree.ElseIf.{ElseIf, out-ElseIf}
use Rattle.vale_core.specs.declared.tree.Link.{Link, out-Link}
use Rattle.vale_core.specs.declared.tree.Form.{Form}
use Rattle.vale_core.specs.declared.tree.Form.TheVariants as f
use Rattle.vale_rules_spec.specs.Typed as t
use Rattle.vale_syntax.specs.View.{listed}
use Rattle.vale_core.specs.View.{view_ty, view_expr, view_node, view_form, view_stmt, view_block, view_else_if, view_link, elses_of, else_end, stmts_of, last_end}
use Rattle.vale_core.proofs.ViewLaws as v
use Rattle.vale_model.specs.Kinds.{expr_arrays, node_arrays, link_arrays, links_arrays, form_arrays, else_if_arrays, elses_arrays, block_arrays, stmts_arrays, stmt_arrays}
use Rattle.vale_core.proofs.PartLaws.{of_out_expr, of_out_link, of_out_else_if, of_out_block}
use Rattle.vale_rules_spec.specs.Types.{Ty}
use Rattle.vale_lower_kinds.specs.Added.{added}
use Rattle.vale_lower_kinds.proofs.AddedLaws.{added_more}

pub expr_by_parts : (e : Expr) → expr_arrays (view_expr e) ≡ node_arrays (view_ty (out-Expr e).seen.value) (view_node (out-Expr e).node)
expr_by_parts e = ap expr_arrays (of_out_expr e)

pub link_by_parts : (l : Link) → link_arrays (view_link l) ≡ expr_arrays (view_expr (out-Link l).operand)
link_by_parts l = ap link_arrays (of_out_link l)

pub else_if_by_parts : (e : ElseIf) → else_if_arrays (view_else_if e) ≡ expr_arrays (view_expr (out-ElseIf e).condition) ++ block_arrays (view_block (out-ElseIf e).block)
else_if_by_parts e = ap else_if_arrays (of_out_else_if e)

-- ---- lists, one part at a time

pub link_first : (l : t.Link) (ls : t.Links) → links_arrays (t.more_links l ls) ≡ link_arrays l ++ links_arrays ls
link_first (t.link s at op e) ls = refl

pub else_if_first : (e : t.ElseIf) (es : t.Elses) → elses_arrays (t.more_elses e es) ≡ else_if_arrays e ++ elses_arrays es
else_if_first (t.else_if at c b) es = refl

pub stmts_by_parts : (ss : List t.Stmt) (end : t.Stmts) → stmts_arrays (listed t.more_stmts ss end) ≡ stmts_arrays (listed t.more_stmts ss t.no_stmts) ++ stmts_arrays end
stmts_by_parts [] end = refl
stmts_by_parts (s ∷ ss) end =
    ap (λ z. stmt_arrays s ++ z) (stmts_by_parts ss end) ∙ sym (append_assoc (stmt_arrays s) (stmts_arrays (listed t.more_stmts ss t.no_stmts)) (stmts_arrays end))

pub block_by_parts : (b : Block) → block_arrays (view_block b) ≡ stmts_arrays (stmts_of (map view_stmt (out-Block b).stmts) None) ++ stmts_arrays (last_end (option_map view_expr (out-Block b).last))
block_by_parts b = ap block_arrays (of_out_block b) ∙ stmts_by_parts (map view_stmt (out-Block b).stmts) (last_end (option_map view_expr (out-Block b).last))

pub elses_by_parts : (es : List t.ElseIf) (end : t.Elses) → elses_arrays (listed t.more_elses es end) ≡ elses_arrays (listed t.more_elses es t.no_else) ++ elses_arrays end
elses_by_parts [] end = refl
elses_by_parts (e ∷ es) end =
    else_if_first e (listed t.more_elses es end) ∙ ap (λ z. else_if_arrays e ++ z) (elses_by_parts es end)
    ∙ sym (append_assoc (else_if_arrays e) (elses_arrays (listed t.more_elses es t.no_else)) (elses_arrays end))
    ∙ ap (λ z. z ++ elses_arrays end) (sym (else_if_first e (listed t.more_elses es t.no_else)))

pub if_by_parts : (at : Spot) (c : Expr) (b : Block) (es : List ElseIf) (o : Option Block) → form_arrays (view_form (f.If at c b es o)) ≡ (expr_arrays (view_expr c) ++ block_arrays (view_block b)) ++ (elses_arrays (elses_of (map view_else_if es) None) ++ elses_arrays (else_end (option_map view_block o)))
if_by_parts at c b es o = ap form_arrays (v.of_if at c b es o) ∙ ap (λ z. (expr_arrays (view_expr c) ++ block_arrays (view_block b)) ++ z) (elses_by_parts (map view_else_if es) (else_end (option_map view_block o)))

pub by_if : (x : Form) (at : Spot) (c : Expr) (b : Block) (es : List ElseIf) (o : Option Block) (t0 t1 t2 t3 t4 : List Ty) → x ≡ f.If at c b es o
    → t1 ≡ added t0 (expr_arrays (view_expr c)) → t2 ≡ added t1 (block_arrays (view_block b)) → t3 ≡ added t2 (elses_arrays (elses_of (map view_else_if es) None)) → t4 ≡ added t3 (elses_arrays (else_end (option_map view_block o)))
    → t4 ≡ added t0 (form_arrays (view_form x))
by_if x at c b es o t0 t1 t2 t3 t4 ex e1 e2 e3 e4 =
    let qa : List Ty = expr_arrays (view_expr c) in
    let qb : List Ty = block_arrays (view_block b) in
    let qc : List Ty = elses_arrays (elses_of (map view_else_if es) None) in
    let qd : List Ty = elses_arrays (else_end (option_map view_block o)) in
    e4 ∙ (ap (λ (z : List Ty). added z qd) (e3 ∙ ap (λ (z : List Ty). added z qc) (e2 ∙ ap (λ (z : List Ty). added z qb) e1))
    ∙ (sym (added_more (added (added t0 qa) qb) qc qd) ∙ (ap (λ (z : List Ty). added z (qc ++ qd)) (sym (added_more t0 qa qb)) ∙ (sym (added_more t0 (qa ++ qb) (qc ++ qd))
    ∙ ap (λ (z : List Ty). added t0 z) (sym (ap (λ (y : Form). form_arrays (view_form y)) ex ∙ if_by_parts at c b es o))))))

pub ruleset nodes = (expr_by_parts, v.of_set, v.of_chain, v.of_unary, v.of_steps, v.of_number, v.of_quote, v.of_truth, v.of_name, v.of_call, v.of_paren, v.of_elements, v.of_isolate, v.of_form, added_more)

pub ruleset lists = (added_more, link_first, else_if_first)

pub ruleset parts = (link_by_parts, else_if_by_parts, block_by_parts, if_by_parts, v.of_pure, v.of_parallel_range, v.of_parallel_each, added_more)

pub ruleset stmts = (v.of_declare, v.of_destructure, v.of_return_nothing, v.of_return_value, v.of_while, v.of_foreach, v.of_form_stmt, v.of_express, added_more)

pub ruleset steps = (v.of_field, v.of_method, v.of_index, added_more)
