-- Whether a run comes behind a part, by its own parts.
use Rattle.std.proofs.Common.{◌≡◌, ℕ, ◌+◌, ◌-◌, ◌<◌, List, [], ◌∷◌, ◌++◌, length, get_or, take, refl, ap, sym, ◌∙◌, arith}
use Rattle.std.proofs.lemmas.List.{take_more}
use Rattle.std.specs.Prelude.{Bool, true, false, ◌||◌, ◌&&◌, Option, None, map, option_map}
use Rattle.vale_base.specs.declared.spot.Spot.{Spot}
use Rattle.vale_core.specs.declared.tree.Expr.{Expr, out-Expr}
use Rattle.vale_core.specs.declared.tree.Block.{Block, out-Block}
use Rattle.vale_core.specs.declared.tree.ElseIf.{ElseIf, out-ElseIf}
use Rattle.vale_core.specs.declared.tree.Step.{Step}
use Rattle.vale_core.specs.declared.tree.Link.{Link, out-Link}
use Rattle.vale_core.specs.declared.tree.Form.{Form}
use Rattle.vale_core.specs.declared.tree.Form.TheVariants as f
use Rattle.vale_rules_spec.specs.Typed as t
use Rattle.vale_syntax.specs.View.{listed}
use Rattle.vale_core.specs.View.{view_seen, view_expr, view_node, view_form, view_stmt, view_block, view_else_if, view_link, view_step, steps_of, elses_of, else_end, stmts_of, last_end}
use Rattle.vale_core.proofs.ViewLaws as v
use Rattle.vale_core.proofs.PartLaws.{of_out_expr, of_out_link, of_out_else_if, of_out_block}
use Rattle.vale_lower_looks.specs.Comes.{operand_comes, expr_comes, node_comes, based, place_comes, links_come, elses_come, form_comes, steps_come, block_comes, stmts_come, stmt_comes}
use Rattle.vale_lower_looks.specs.Parts.{link_comes, else_if_comes, else_ifs_come}

pub and_and : (a b c : Bool) → (a && (b && c)) ≡ ((a && b) && c)
and_and true b c = refl
and_and false b c = refl

pub expr_by_parts : (e : Expr) → expr_comes (view_expr e) ≡ node_comes (view_node (out-Expr e).node)
expr_by_parts e = ap expr_comes (of_out_expr e)

pub place_by_parts : (e : Expr) → place_comes (view_expr e) ≡ place_comes (t.expr (view_seen (out-Expr e).seen) (view_node (out-Expr e).node))
place_by_parts e = ap place_comes (of_out_expr e)

pub link_by_parts : (l : Link) → link_comes (view_link l) ≡ operand_comes (out-Link l).op (expr_comes (view_expr (out-Link l).operand))
link_by_parts l = ap link_comes (of_out_link l)

pub link_first : (l : t.Link) (ls : t.Links) → links_come (t.more_links l ls) ≡ (link_comes l && links_come ls)
link_first (t.link x at op e) ls = refl

pub else_if_by_parts : (e : ElseIf) (rest : Bool) → else_if_comes (view_else_if e) rest ≡ (expr_comes (view_expr (out-ElseIf e).condition) && (block_comes (view_block (out-ElseIf e).block) || rest))
else_if_by_parts e rest = ap (λ z. else_if_comes z rest) (of_out_else_if e)

elses_by_parts : (es : List t.ElseIf) (end : t.Elses) → elses_come (listed t.more_elses es end) ≡ else_ifs_come es (elses_come end)
elses_by_parts [] end = refl
elses_by_parts (t.else_if at c b ∷ es) end = ap (λ z. expr_comes c && (block_comes b || z)) (elses_by_parts es end)

pub if_by_parts : (at : Spot) (c : Expr) (b : Block) (es : List ElseIf) (o : Option Block) → form_comes (view_form (f.If at c b es o)) ≡ (expr_comes (view_expr c) && (block_comes (view_block b) || else_ifs_come (map view_else_if es) (elses_come (else_end (option_map view_block o)))))
if_by_parts at c b es o =
    ap form_comes (v.of_if at c b es o)
    ∙ ap (λ z. expr_comes (view_expr c) && (block_comes (view_block b) || z)) (elses_by_parts (map view_else_if es) (else_end (option_map view_block o)))

stmts_by_parts : (ss : List t.Stmt) (end : t.Stmts) → stmts_come (listed t.more_stmts ss end) ≡ (stmts_come (listed t.more_stmts ss t.no_stmts) && stmts_come end)
stmts_by_parts [] end = refl
stmts_by_parts (s ∷ ss) end =
    ap (λ z. stmt_comes s && z) (stmts_by_parts ss end) ∙ and_and (stmt_comes s) (stmts_come (listed t.more_stmts ss t.no_stmts)) (stmts_come end)

pub block_by_parts : (b : Block) → block_comes (view_block b) ≡ (stmts_come (stmts_of (map view_stmt (out-Block b).stmts) None) && stmts_come (last_end (option_map view_expr (out-Block b).last)))
block_by_parts b = ap block_comes (of_out_block b) ∙ stmts_by_parts (map view_stmt (out-Block b).stmts) (last_end (option_map view_expr (out-Block b).last))

-- those before one more
pub comes_more : (es : List t.ElseIf) (e : t.ElseIf) (rest : Bool) → else_ifs_come (es ++ e ∷ []) rest ≡ else_ifs_come es (else_if_comes e rest)
comes_more [] e rest = refl
comes_more (x ∷ es) e rest = ap (λ z. else_if_comes x z) (comes_more es e rest)

-- the last of those that are left
kept_more : (es : List ElseIf) (e : ElseIf) (rest : Bool) → else_ifs_come (map view_else_if (es ++ e ∷ [])) rest ≡ else_ifs_come (map view_else_if es) (else_if_comes (view_else_if e) rest)
kept_more [] e rest = refl
kept_more (x ∷ es) e rest = ap (λ z. else_if_comes (view_else_if x) z) (kept_more es e rest)

pub comes_back : (es : List ElseIf) (back : ℕ) (e : ElseIf) (rest new : Bool) → back < length es → e ≡ get_or es (length es - 1 - back) e → new ≡ else_if_comes (view_else_if e) rest
    → else_ifs_come (map view_else_if (take (length es - (back + 1)) es)) new ≡ else_ifs_come (map view_else_if (take (length es - back) es)) rest
comes_back es back e rest new lt is en =
    let k : ℕ = length es - 1 - back in
    let j : length es - (back + 1) ≡ length es - 1 - back = omega arith in
    let m : length es - back ≡ (length es - 1 - back) + 1 = omega arith in
    let less : length es - 1 - back < length es = omega arith in
    let one : take (k + 1) es ≡ take k es ++ e ∷ [] = take_more es k e less ∙ ap (λ (z : ElseIf). take k es ++ z ∷ []) (sym is) in
    ap (λ (n : ℕ). else_ifs_come (map view_else_if (take n es)) new) j
    ∙ (ap (λ (z : Bool). else_ifs_come (map view_else_if (take k es)) z) en
    ∙ (sym (kept_more (take k es) e rest)
    ∙ (ap (λ (z : List ElseIf). else_ifs_come (map view_else_if z) rest) (sym one)
    ∙ ap (λ (n : ℕ). else_ifs_come (map view_else_if (take n es)) rest) (sym m))))

pub by_if : (x : Form) (at : Spot) (c : Expr) (b : Block) (es : List ElseIf) (o : Option Block) (r condition inside rest other : Bool) → x ≡ f.If at c b es o
    → other ≡ elses_come (else_end (option_map view_block o)) → rest ≡ else_ifs_come (map view_else_if es) other → inside ≡ block_comes (view_block b) → condition ≡ expr_comes (view_expr c)
    → r ≡ (condition && (inside || rest)) → r ≡ form_comes (view_form x)
by_if x at c b es o r condition inside rest other ex eo es_rest ei ec er =
    er ∙ ap (λ (z : Bool). z && (inside || rest)) ec ∙ ap (λ (z : Bool). expr_comes (view_expr c) && (z || rest)) ei
    ∙ ap (λ (z : Bool). expr_comes (view_expr c) && (block_comes (view_block b) || z)) (es_rest ∙ ap (λ (z : Bool). else_ifs_come (map view_else_if es) z) eo)
    ∙ sym (ap (λ (z : Form). form_comes (view_form z)) ex ∙ if_by_parts at c b es o)

-- steps, where there are none and where there are some
pub based_none : (base : Bool) (ss : List Step) → length ss ≡ 0 → based base (steps_of (map view_step ss)) ≡ true
based_none base [] e = refl
based_none base (s ∷ ss) e = absurd (omega arith)

pub based_more : (base : Bool) (ss : List Step) → 0 < length ss → based base (steps_of (map view_step ss)) ≡ (base && steps_come (steps_of (map view_step ss)))
based_more base [] lt = absurd (omega arith)
based_more base (s ∷ ss) lt = refl

pub ruleset exprs = (expr_by_parts)

pub ruleset nodes = (v.of_set, v.of_chain, v.of_unary, v.of_steps, v.of_number, v.of_quote, v.of_truth, v.of_name, v.of_call, v.of_paren, v.of_elements, v.of_isolate, v.of_form)

pub ruleset places = (place_by_parts, v.of_set, v.of_chain, v.of_unary, v.of_steps, v.of_number, v.of_quote, v.of_truth, v.of_name, v.of_call, v.of_paren, v.of_elements, v.of_isolate, v.of_form)

pub ruleset bases = (based_none, based_more)

pub ruleset links = (link_by_parts, else_if_by_parts)

pub ruleset lists = (link_first, and_and)

pub ruleset steps = (v.of_field, v.of_method, v.of_index)

pub ruleset forms = (if_by_parts, v.of_pure, v.of_parallel_range, v.of_parallel_each)

pub ruleset backs = (comes_more)

pub ruleset blocks = (block_by_parts)

pub ruleset stmts = (v.of_declare, v.of_destructure, v.of_return_nothing, v.of_return_value, v.of_while, v.of_foreach, v.of_form_stmt, v.of_express)
