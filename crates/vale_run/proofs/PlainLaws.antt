-- A program that is served and well typed takes no input and has no site.
use Rattle.std.proofs.Common.{◌≡◌, ℕ, ◌+◌, ◌&&◌, Bool, true, false, not, List, [], ◌∷◌, Some, None, Option, refl, sym, ap, subst, ◌∙◌, arith, codes}
use Rattle.std.proofs.lemmas.Bool.{false≢true, and_parts}
use Rattle.std.specs.List.{list_all}
use Rattle.std.specs.Prelude.{flat_map}
use Rattle.vale_lower_facts.specs.WellTyped.{WellTyped, callee_is_well_typed, expr_is_well_typed, node_is_well_typed, exprs_are_well_typed, links_are_well_typed, form_is_well_typed, elses_are_well_typed, block_is_well_typed, stmts_are_well_typed, stmt_is_well_typed, all_are_well_typed}
use Rattle.vale_served_spec.specs.Served.{type_is_served, unary_is_served, callee_is_served, expr_is_served, node_is_served, exprs_are_served, link_is_served, links_are_served, form_is_served, else_if_is_served, elses_are_served, block_is_served, stmts_are_served, stmt_is_served, param_is_served, function_is_served, item_is_served, is_served}
use Rattle.std.specs.Prelude.{Ok}
use Rattle.vale_model.specs.Input.{form_of, takes_nothing, taken}
use Rattle.vale_ports.specs.Streams.{SourceState}
use Rattle.vale_state_spec.specs.State.{no_input}
use Rattle.vale_model.specs.Meaning.{main_takes, taken_type}
use Rattle.vale_model.specs.Parts.{functions_of, parts_of, main_of}
use Rattle.vale_syntax.specs.Tree.{Head, head}
use Rattle.vale_rules_spec.specs.Sites.{at_len, at_call, expr_sites, node_sites, exprs_sites, links_sites, form_sites, elses_sites, block_sites, stmts_sites, stmt_sites, function_sites, item_sites, items_sites, sites}
use Rattle.vale_rules_spec.specs.TypeRules.{takes_arguments}
use Rattle.vale_rules_spec.specs.Typed.{Callee, built_in, constructor, function, Expr, expr, Node, set, chain, unary, steps, number, quote, truth, name, call, paren, array, iso, form, Exprs, no_exprs, more_exprs, link, Links, no_links, more_links, Form, branch, pure, parallel_range, parallel_each, else_if, Elses, no_else, otherwise, more_elses, Block, block, Stmt, declare, destructure, return_nothing, return_value, while, foreach, form_stmt, express, Stmts, no_stmts, last, more_stmts, Function, function_body, Item, struct_item, interface_item, impl_item, function_item, Typed, typed, type, types}
use Rattle.vale_rules_spec.specs.Types as y
use Rattle.vale_rules_spec.specs.Types.{Ty, result_of}
use Rattle.vale_rules_spec.specs.Typing.{Env, with_local, after, entry}
use Rattle.vale_run.specs.Means.{HasLeft, input_form, IsTaken, HasInput}
use Rattle.vale_syntax.specs.declared.built_in.BuiltIn.{BuiltIn}
use Rattle.vale_syntax.specs.declared.built_in.BuiltIn.TheVariants as b
use Rattle.vale_syntax.specs.declared.tree.NameAt.{NameAt}

-- ---- input

pub takes_no_input : (program : Typed) → WellTyped program → input_form program ≡ takes_nothing
takes_no_input (typed names items) fit =
    ap (λ (o : Option Function). form_of (main_takes o)) fit.main.found ∙ ap (λ ps. form_of (taken_type ps)) fit.main.takes_nothing

-- what is left of a source
some_left : (left : Option (List ℕ)) → (bytes : List ℕ) × HasLeft left bytes
some_left None = ([], tt)
some_left (Some left) = (left, refl)

pub has_no_input : (program : Typed) (source : SourceState) → input_form program ≡ takes_nothing → HasInput program source (Ok no_input)
has_no_input program source none =
    let (bytes, left) = some_left source.left in
    (bytes, left, ap (λ f. taken f bytes) none)

pub takes_none : (program : Typed) (source : SourceState) → input_form program ≡ takes_nothing → IsTaken (input_form program) source source
takes_none program source none = subst (λ f. IsTaken f source source) (sym none) refl

-- ---- sites

impossible : {A : Type 0} → false ≡ true → A
impossible e = absurd (false≢true e)

none : (a b : ℕ) → a ≡ 0 → b ≡ 0 → a + b ≡ 0
none a b x y = omega arith

served_type : (e : Expr) → expr_is_served e ≡ true → type_is_served (type e) ≡ true
served_type (expr s node) c = (and_parts (type_is_served s.value) (node_is_served node) c).0

-- the `len` of what isn't an array
no_len : (x : Ty) → type_is_served x ≡ true → takes_arguments [] b.Len (x ∷ []) ≡ true → at_len (x ∷ []) ≡ 0
no_len y.str c takes = refl
no_len y.void c takes = impossible takes
no_len y.int c takes = impossible takes
no_len y.bool c takes = impossible takes
no_len _ c takes = impossible c

no_call : (f : Callee) (functions : List Function) (n : NameAt) (es : Exprs) (x : Ty) → callee_is_served f ≡ true → exprs_are_served es ≡ true → callee_is_well_typed functions n f (types es) x → at_call f (types es) ≡ 0
no_call (built_in b.Len) functions n no_exprs x c cs fit = impossible fit.taken
no_call (built_in b.Len) functions n (more_exprs e no_exprs) x c cs fit =
    no_len (type e) (served_type e (and_parts (expr_is_served e) true cs).0) fit.taken
no_call (built_in b.Len) functions n (more_exprs e (more_exprs d es)) x c cs fit = impossible fit.taken
no_call (built_in b.Push) functions n es x c cs fit = impossible c
no_call (built_in b.Pop) functions n es x c cs fit = impossible c
no_call _ functions n es x c cs fit = refl

module _ (functions : List Function) where
  mutual
    no_expr : (env : Env) (e : Expr) → expr_is_served e ≡ true → expr_is_well_typed functions env e → expr_sites e ≡ 0
    no_expr env (expr s node) c fit = no_node env s.value node (and_parts (type_is_served s.value) (node_is_served node) c).1 fit

    no_node : (env : Env) (x : Ty) (node : Node) → node_is_served node ≡ true → node_is_well_typed functions env x node → node_sites node ≡ 0
    no_node env x (set at (expr s (name n is_outer moved)) e) c fit = none 0 (expr_sites e) refl (no_expr env e c fit.1)
    no_node env x (set at (expr s _) e) c fit = impossible c
    no_node env x (chain e ls) c fit =
        let parts = and_parts (expr_is_served e) (links_are_served ls) c in
        none (expr_sites e) (links_sites ls) (no_expr env e parts.0 fit.0) (no_links_in env (type e) x ls parts.1 fit.1)
    no_node env x (unary at op e) c fit = no_expr env e (and_parts (unary_is_served op) (expr_is_served e) c).1 fit.1
    no_node env x (steps e ss) c fit = impossible c
    no_node env x (number at n) c fit = refl
    no_node env x (quote at text) c fit = refl
    no_node env x (truth at v) c fit = refl
    no_node env x (name n is_outer moved) c fit = refl
    no_node env x (call n f es) c fit =
        let parts = and_parts (callee_is_served f) (exprs_are_served es) c in
        none (exprs_sites es) (at_call f (types es)) (no_exprs_in env es parts.1 fit.1) (no_call f functions n es x parts.0 parts.1 fit.0)
    no_node env x (paren at e) c fit = no_expr env e c fit.1
    no_node env x (array at z es) c fit = impossible c
    no_node env x (iso at body) c fit = impossible c
    no_node env x (form f) c fit = no_form env x f c fit

    no_exprs_in : (env : Env) (es : Exprs) → exprs_are_served es ≡ true → exprs_are_well_typed functions env es → exprs_sites es ≡ 0
    no_exprs_in env no_exprs c fit = refl
    no_exprs_in env (more_exprs e es) c fit =
        let parts = and_parts (expr_is_served e) (exprs_are_served es) c in
        none (expr_sites e) (exprs_sites es) (no_expr env e parts.0 fit.0) (no_exprs_in env es parts.1 fit.1)

    no_links_in : (env : Env) (t x : Ty) (ls : Links) → links_are_served ls ≡ true → links_are_well_typed functions env t x ls → links_sites ls ≡ 0
    no_links_in env t x no_links c fit = refl
    no_links_in env t x (more_links (link s at op e) ls) c fit =
        let parts = and_parts (link_is_served (link s at op e)) (links_are_served ls) c in
        none (expr_sites e) (links_sites ls) (no_expr env e parts.0 fit.2) (no_links_in env s.value x ls parts.1 fit.3)

    no_form : (env : Env) (x : Ty) (f : Form) → form_is_served f ≡ true → form_is_well_typed functions env x f → form_sites f ≡ 0
    no_form env x (branch at e body es) c fit =
        let parts = and_parts (expr_is_served e && block_is_served body) (elses_are_served es) c in
        let more = and_parts (expr_is_served e) (block_is_served body) parts.0 in
        none (expr_sites e + block_sites body) (elses_sites es) (none (expr_sites e) (block_sites body) (no_expr env e more.0 fit.1) (no_block env x body more.1 fit.2)) (no_elses env x es parts.1 fit.3)
    no_form env x (pure at body) c fit = impossible c
    no_form env x (parallel_range at n a e body) c fit = impossible c
    no_form env x (parallel_each at n e body) c fit = impossible c

    no_elses : (env : Env) (x : Ty) (es : Elses) → elses_are_served es ≡ true → elses_are_well_typed functions env x es → elses_sites es ≡ 0
    no_elses env x no_else c fit = refl
    no_elses env x (otherwise body) c fit = no_block env x body c fit
    no_elses env x (more_elses (else_if at e body) es) c fit =
        let parts = and_parts (else_if_is_served (else_if at e body)) (elses_are_served es) c in
        let more = and_parts (expr_is_served e) (block_is_served body) parts.0 in
        none (expr_sites e + block_sites body) (elses_sites es) (none (expr_sites e) (block_sites body) (no_expr env e more.0 fit.1) (no_block env x body more.1 fit.2)) (no_elses env x es parts.1 fit.3)

    no_block : (env : Env) (x : Ty) (body : Block) → block_is_served body ≡ true → block_is_well_typed functions env x body → block_sites body ≡ 0
    no_block env x (block at end t ss) c fit = no_stmts_in env x ss c fit.1

    no_stmts_in : (env : Env) (x : Ty) (ss : Stmts) → stmts_are_served ss ≡ true → stmts_are_well_typed functions env x ss → stmts_sites ss ≡ 0
    no_stmts_in env x no_stmts c fit = refl
    no_stmts_in env x (last e) c fit = no_expr env e c fit.1
    no_stmts_in env x (more_stmts s ss) c fit =
        let parts = and_parts (stmt_is_served s) (stmts_are_served ss) c in
        none (stmt_sites s) (stmts_sites ss) (no_stmt env s parts.0 fit.0) (no_stmts_in (after s env) x ss parts.1 fit.1)

    no_stmt : (env : Env) (s : Stmt) → stmt_is_served s ≡ true → stmt_is_well_typed functions env s → stmt_sites s ≡ 0
    no_stmt env (declare n x e) c fit = no_expr env e c fit.2
    no_stmt env (destructure at ns xs e) c fit = impossible c
    no_stmt env (return_nothing at) c fit = refl
    no_stmt env (return_value at e) c fit = no_expr env e c fit.2
    no_stmt env (while at e body) c fit =
        let parts = and_parts (expr_is_served e) (block_is_served body) c in
        none (expr_sites e) (block_sites body) (no_expr env e parts.0 fit.1) (no_block env y.void body parts.1 fit.2)
    no_stmt env (foreach at n a e body) c fit =
        let parts = and_parts (expr_is_served a && expr_is_served e) (block_is_served body) c in
        let ends = and_parts (expr_is_served a) (expr_is_served e) parts.0 in
        none (expr_sites a + expr_sites e) (block_sites body) (none (expr_sites a) (expr_sites e) (no_expr env a ends.0 fit.2) (no_expr env e ends.1 fit.3)) (no_block (with_local n y.int env) y.void body parts.1 fit.4)
    no_stmt env (form_stmt f) c fit = no_form env y.void f c fit
    no_stmt env (express e) c fit = no_expr env e c fit

  no_items : (items : List Item) → list_all item_is_served items ≡ true → all_are_well_typed functions (flat_map functions_of items) → items_sites items ≡ 0
  no_items [] c fit = refl
  no_items (struct_item n fs ∷ items) c fit = impossible c
  no_items (interface_item n hs ∷ items) c fit = impossible c
  no_items (impl_item at i s fs ∷ items) c fit = impossible c
  no_items (function_item (function_body h body) ∷ items) c fit =
      let parts = and_parts (function_is_served (function_body h body)) (list_all item_is_served items) c in
      none (block_sites body) (items_sites items) (no_block (entry h) y.void body (in_function h body parts.0) fit.0.0) (no_items items parts.1 fit.1)
    where
      in_function : (h : Head) (body : Block) → function_is_served (function_body h body) ≡ true → block_is_served body ≡ true
      in_function (head is_pure n ps x) body c = (and_parts (not is_pure && list_all param_is_served ps && type_is_served (result_of x)) (block_is_served body) c).1

pub has_no_site : (program : Typed) → is_served program ≡ true → WellTyped program → sites program ≡ 0
has_no_site (typed names items) served fit = no_items (flat_map functions_of items) items served fit.functions
