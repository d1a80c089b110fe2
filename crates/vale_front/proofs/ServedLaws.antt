-- Whether a part is served, by its own parts.
use Rattle.std.proofs.Common.{◌≡◌, List, [], ◌∷◌, refl, ap, ◌∙◌, sym}
use Rattle.std.specs.Prelude.{Bool, true, false, ◌&&◌, Option, None, map, option_map}
use Rattle.vale_base.specs.declared.spot.Spot.{Spot}
use Rattle.vale_core.specs.declared.tree.Expr.{Expr, out-Expr}
use Rattle.vale_core.specs.declared.tree.Block.{Block, out-Block}
use Rattle.vale_core.specs.declared.tree.ElseIf.{ElseIf, out-ElseIf}
use Rattle.vale_core.specs.declared.tree.Link.{Link, out-Link}
use Rattle.vale_core.specs.declared.tree.Form.{Form}
use Rattle.vale_core.specs.declared.tree.Form.TheVariants as f
use Rattle.vale_rules_spec.specs.Typed as t
use Rattle.vale_served_spec.specs.Served as s
use Rattle.vale_syntax.specs.View.{listed}
use Rattle.vale_core.specs.View.{view_ty, view_seen, view_expr, view_node, view_form, view_stmt, view_block, view_else_if, view_link, elses_of, else_end, stmts_of, last_end}
use Rattle.vale_core.proofs.PartLaws.{of_out_expr, of_out_link, of_out_else_if, of_out_block}
use Rattle.vale_core.proofs.ViewLaws as v

and_and : (a b c : Bool) → (a && (b && c)) ≡ ((a && b) && c)
and_and true b c = refl
and_and false b c = refl

pub expr_by_parts : (e : Expr) → s.expr_is_served (view_expr e) ≡ (s.type_is_served (view_ty (out-Expr e).seen.value) && s.node_is_served (view_node (out-Expr e).node))
expr_by_parts e = ap s.expr_is_served (of_out_expr e)

pub local_by_parts : (e : Expr) → s.is_local (view_expr e) ≡ s.is_local (t.expr (view_seen (out-Expr e).seen) (view_node (out-Expr e).node))
local_by_parts e = ap s.is_local (of_out_expr e)

pub link_by_parts : (l : Link) → s.link_is_served (view_link l) ≡ s.expr_is_served (view_expr (out-Link l).operand)
link_by_parts l = ap s.link_is_served (of_out_link l)

pub else_if_by_parts : (e : ElseIf) → s.else_if_is_served (view_else_if e) ≡ (s.expr_is_served (view_expr (out-ElseIf e).condition) && s.block_is_served (view_block (out-ElseIf e).block))
else_if_by_parts e = ap s.else_if_is_served (of_out_else_if e)

stmts_by_parts : (ss : List t.Stmt) (end : t.Stmts) → s.stmts_are_served (listed t.more_stmts ss end) ≡ (s.stmts_are_served (listed t.more_stmts ss t.no_stmts) && s.stmts_are_served end)
stmts_by_parts [] end = refl
stmts_by_parts (x ∷ ss) end = ap (λ b. s.stmt_is_served x && b) (stmts_by_parts ss end) ∙ and_and (s.stmt_is_served x) (s.stmts_are_served (listed t.more_stmts ss t.no_stmts)) (s.stmts_are_served end)

pub block_by_parts : (b : Block) → s.block_is_served (view_block b) ≡ (s.stmts_are_served (stmts_of (map view_stmt (out-Block b).stmts) None) && s.stmts_are_served (last_end (option_map view_expr (out-Block b).last)))
block_by_parts b = ap s.block_is_served (of_out_block b) ∙ stmts_by_parts (map view_stmt (out-Block b).stmts) (last_end (option_map view_expr (out-Block b).last))

elses_by_parts : (es : List t.ElseIf) (end : t.Elses) → s.elses_are_served (listed t.more_elses es end) ≡ (s.elses_are_served (listed t.more_elses es t.no_else) && s.elses_are_served end)
elses_by_parts [] end = refl
elses_by_parts (e ∷ es) end = ap (λ b. s.else_if_is_served e && b) (elses_by_parts es end) ∙ and_and (s.else_if_is_served e) (s.elses_are_served (listed t.more_elses es t.no_else)) (s.elses_are_served end)

pub if_by_parts : (at : Spot) (c : Expr) (b : Block) (es : List ElseIf) (o : Option Block) → s.form_is_served (view_form (f.If at c b es o)) ≡ ((s.expr_is_served (view_expr c) && s.block_is_served (view_block b)) && (s.elses_are_served (elses_of (map view_else_if es) None) && s.elses_are_served (else_end (option_map view_block o))))
if_by_parts at c b es o =
    ap s.form_is_served (v.of_if at c b es o)
    ∙ ap (λ x. (s.expr_is_served (view_expr c) && s.block_is_served (view_block b)) && x) (elses_by_parts (map view_else_if es) (else_end (option_map view_block o)))

pub by_if : (z : Form) (at : Spot) (c : Expr) (b : Block) (es : List ElseIf) (o : Option Block) (first body each other : Bool) → z ≡ f.If at c b es o
    → first ≡ s.expr_is_served (view_expr c) → body ≡ s.block_is_served (view_block b) → each ≡ s.elses_are_served (elses_of (map view_else_if es) None)
    → other ≡ s.elses_are_served (else_end (option_map view_block o)) → ((first && body) && (each && other)) ≡ s.form_is_served (view_form z)
by_if z at c b es o first body each other is e1 e2 e3 e4 =
    ap (λ x. (x && body) && (each && other)) e1
    ∙ ap (λ x. (s.expr_is_served (view_expr c) && x) && (each && other)) e2
    ∙ ap (λ x. (s.expr_is_served (view_expr c) && s.block_is_served (view_block b)) && (x && other)) e3
    ∙ ap (λ x. (s.expr_is_served (view_expr c) && s.block_is_served (view_block b)) && (s.elses_are_served (elses_of (map view_else_if es) None) && x)) e4
    ∙ sym (if_by_parts at c b es o)
    ∙ ap (λ x. s.form_is_served (view_form x)) (sym is)

pub ruleset exprs = (expr_by_parts, local_by_parts)

pub ruleset nodes = (v.of_set, v.of_chain, v.of_unary, v.of_steps, v.of_number, v.of_quote, v.of_truth, v.of_name, v.of_call, v.of_paren, v.of_elements, v.of_isolate, v.of_form)

pub ruleset links = (link_by_parts)

pub ruleset forms = (if_by_parts, else_if_by_parts, v.of_pure, v.of_parallel_range, v.of_parallel_each)

pub ruleset blocks = (block_by_parts)

pub ruleset stmts = (v.of_declare, v.of_destructure, v.of_return_nothing, v.of_return_value, v.of_while, v.of_foreach, v.of_form_stmt, v.of_express)
