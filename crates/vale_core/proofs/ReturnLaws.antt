-- Whether a part always returns, by its own parts.
use Rattle.std.proofs.Common.{◌≡◌, List, [], ◌∷◌, refl, ap, sym, ◌∙◌}
use Rattle.std.specs.Prelude.{Bool, true, false, ◌&&◌, ◌||◌, Option, None, map, option_map}
use Rattle.vale_base.specs.declared.spot.Spot.{Spot}
use Rattle.vale_core.specs.declared.tree.Expr.{Expr, out-Expr}
use Rattle.vale_core.specs.declared.tree.Block.{Block, out-Block}
use Rattle.vale_core.specs.declared.tree.ElseIf.{ElseIf, out-ElseIf}
use Rattle.vale_core.specs.declared.tree.Form.{Form}
use Rattle.vale_core.specs.declared.tree.Form.TheVariants as f
use Rattle.vale_rules_spec.specs.Typed as t
use Rattle.vale_syntax.specs.View.{listed}
use Rattle.vale_core.specs.View.{view_expr, view_node, view_form, view_stmt, view_block, view_else_if, else_end, stmts_of, last_end}
use Rattle.vale_core.proofs.ViewLaws as v
use Rattle.vale_rules_spec.specs.Returns.{block_returns, stmts_return, stmt_returns, expr_returns, node_returns, form_returns, elses_return}
use Rattle.vale_rules_spec.specs.Sides.{else_if_returns, each_returns}
use Rattle.vale_core.proofs.PartLaws.{of_out_expr, of_out_else_if, of_out_block}

pub or_or : (a b c : Bool) → (a || (b || c)) ≡ ((a || b) || c)
or_or true b c = refl
or_or false b c = refl

and_and : (a b c : Bool) → (a && (b && c)) ≡ ((a && b) && c)
and_and true b c = refl
and_and false b c = refl

pub expr_by_parts : (e : Expr) → expr_returns (view_expr e) ≡ node_returns (view_node (out-Expr e).node)
expr_by_parts e = ap expr_returns (of_out_expr e)

pub else_if_by_parts : (e : ElseIf) → else_if_returns (view_else_if e) ≡ block_returns (view_block (out-ElseIf e).block)
else_if_by_parts e = ap else_if_returns (of_out_else_if e)

stmts_by_parts : (ss : List t.Stmt) (end : t.Stmts) → stmts_return (listed t.more_stmts ss end) ≡ (stmts_return (listed t.more_stmts ss t.no_stmts) || stmts_return end)
stmts_by_parts [] end = refl
stmts_by_parts (s ∷ ss) end =
    ap (λ z. stmt_returns s || z) (stmts_by_parts ss end) ∙ or_or (stmt_returns s) (stmts_return (listed t.more_stmts ss t.no_stmts)) (stmts_return end)

pub block_by_parts : (b : Block) → block_returns (view_block b) ≡ (stmts_return (stmts_of (map view_stmt (out-Block b).stmts) None) || stmts_return (last_end (option_map view_expr (out-Block b).last)))
block_by_parts b = ap block_returns (of_out_block b) ∙ stmts_by_parts (map view_stmt (out-Block b).stmts) (last_end (option_map view_expr (out-Block b).last))

elses_by_parts : (es : List t.ElseIf) (end : t.Elses) → elses_return (listed t.more_elses es end) ≡ (each_returns es && elses_return end)
elses_by_parts [] end = refl
elses_by_parts (t.else_if at c b ∷ es) end =
    ap (λ z. block_returns b && z) (elses_by_parts es end) ∙ and_and (block_returns b) (each_returns es) (elses_return end)

-- the list first, as the code has it
list_first : (a b c : Bool) → (a && (b && c)) ≡ (b && (a && c))
list_first true true c = refl
list_first true false c = refl
list_first false true c = refl
list_first false false c = refl

pub if_by_parts : (at : Spot) (c : Expr) (b : Block) (es : List ElseIf) (o : Option Block) → form_returns (view_form (f.If at c b es o)) ≡ (each_returns (map view_else_if es) && (block_returns (view_block b) && elses_return (else_end (option_map view_block o))))
if_by_parts at c b es o =
    ap form_returns (v.of_if at c b es o) ∙ ap (λ z. block_returns (view_block b) && z) (elses_by_parts (map view_else_if es) (else_end (option_map view_block o)))
    ∙ list_first (block_returns (view_block b)) (each_returns (map view_else_if es)) (elses_return (else_end (option_map view_block o)))

pub by_if : (z : Form) (at : Spot) (c : Expr) (b : Block) (es : List ElseIf) (o : Option Block) (each other : Bool) → z ≡ f.If at c b es o → each ≡ each_returns (map view_else_if es)
    → other ≡ (block_returns (view_block b) && elses_return (else_end (option_map view_block o))) → (each && other) ≡ form_returns (view_form z)
by_if z at c b es o each other is e1 e2 =
    ap (λ x. x && other) e1 ∙ ap (λ x. each_returns (map view_else_if es) && x) e2 ∙ sym (if_by_parts at c b es o) ∙ ap (λ x. form_returns (view_form x)) (sym is)

pub ruleset exprs = (expr_by_parts)

pub ruleset nodes = (v.of_set, v.of_chain, v.of_unary, v.of_steps, v.of_number, v.of_quote, v.of_truth, v.of_name, v.of_call, v.of_paren, v.of_elements, v.of_isolate, v.of_form)

pub ruleset sides = (else_if_by_parts)

pub ruleset forms = (if_by_parts, v.of_pure, v.of_parallel_range, v.of_parallel_each)

pub ruleset blocks = (block_by_parts)

pub ruleset lists = (or_or)

pub ruleset stmts = (v.of_declare, v.of_destructure, v.of_return_nothing, v.of_return_value, v.of_while, v.of_foreach, v.of_form_stmt, v.of_express)
