-- What types the parts of a program have: each node stands here over its parts, in post-order, with its row of rules.
-- Where a part depends on an earlier one (`scoped`), nothing is asked of it where that one is faulty; the first fault is
-- the same.
use Rattle.std.specs.Prelude.{ℕ, ◌+◌, Bool, true, false, ◌&&◌, List, [], ◌∷◌, Option, Some, None, if◌then◌else◌}
use Rattle.std.specs.Option.{option_and_then, option_map, option_map_or}
use Rattle.vale_base.specs.declared.spot.Spot.{Spot}
use Rattle.vale_base.specs.declared.name.Name.{Name}
use Rattle.vale_syntax.specs.declared.tree.NameAt.{NameAt}
use Rattle.vale_syntax.specs.Tree.{Expr, set, chain, unary, steps, number, quote, truth, name, call, paren, array, iso, form, Exprs, no_exprs, more_exprs, Link, link, Links, no_links, more_links, Step, field, method, index, Steps, no_steps, more_steps, Form, branch, pure, parallel_range, parallel_each, ElseIf, else_if, Elses, no_else, otherwise, more_elses, Block, block, Stmt, declare, destructure, return_nothing, return_value, while, foreach, form_stmt, express, Stmts, no_stmts, last, more_stmts, Param, param, Head, Function, function, FieldDecl, field_decl, Item, struct_item, interface_item, impl_item, function_item, Tree, tree}
use Rattle.vale_rules_spec.specs.Judged.{Judged, fine, both, node, leaf, plain, scoped}
use Rattle.vale_rules_spec.specs.Declarations.{field_type, head_name, head_params}
use Rattle.vale_rules_spec.specs.Types.{Ty, void, int, bool, str, type_of, View, direct, shared, Seen, a_value, Local, local_of, local_seen, is_outer, is_movable, field_named, method_named}
use Rattle.vale_rules_spec.specs.Types as y
use Rattle.vale_rules_spec.specs.Typed as t
use Rattle.vale_rules_spec.specs.Typed.{seen, type, types, link_seen, chain_seen, step_seen, steps_seen, block_type, stmts_type, condition_types, block_types, has_else, may_be_set}
use Rattle.vale_rules_spec.specs.TypeRules.{name_rules, new_name_rules, declare_rules, link_rules, link_gives, unary_rules, unary_gives, called, called_rules, called_gives, callee, field_types, head_gives, array_rules, fields_seen, methods_seen, elements_seen, field_rules, index_rules, part_of, method_rules, method_gives, set_rules, set_gives, void_rules, condition_rules, bounds_rules, branch_rules, iso_rules, isolate_in, consumed_rules, parallel_gives, struct_fields, destructure_rules, return_nothing_rules, return_value_rules, function_rules}
use Rattle.vale_rules_spec.specs.Returns.{block_returns}
use Rattle.vale_rules_spec.specs.Takes.{is_value_under, takes}

-- ---- where a part stands

-- what the function gives, the number of `pure`, `iso` and parallel blocks round the part, and the visible locals, the last
-- first
pub record Env : Type 0 where
  pub gives : Ty
  pub depth : ℕ
  pub scope : List Local

abbrev pub with_local : NameAt → Ty → Env → Env
with_local n ty env = record { gives = env.gives; depth = env.depth; scope = record { name = n.name.0; ty = ty; depth = env.depth } ∷ env.scope }

abbrev pub with_locals : List NameAt → List Ty → Env → Env
with_locals (n ∷ ns) (ty ∷ tys) env = with_locals ns tys (with_local n ty env)
with_locals _ _ env = env

abbrev pub with_params : List Param → Env → Env
with_params [] env = env
with_params (param n x ∷ ps) env = with_params ps (with_local n (type_of x) env)

-- inside a `pure`, `iso` or parallel block
abbrev pub deeper : Env → Env
deeper env = record { gives = env.gives; depth = env.depth + 1; scope = env.scope }

-- after a statement
abbrev pub after : t.Stmt → Env → Env
after (t.declare n ty e) env = with_local n ty env
after (t.destructure at ns tys e) env = with_locals ns tys env
after _ env = env

abbrev pub entry : Head → Env
entry h = with_params (head_params h) (record { gives = head_gives h; depth = 0; scope = [] })

-- ---- parts

-- a name that is declared
abbrev pub new_name : Env → NameAt → Judged NameAt
new_name env n = leaf n.at (new_name_rules n env.scope) n

abbrev pub new_names : Env → List NameAt → Judged (List NameAt)
new_names env [] = fine []
new_names env (n ∷ ns) = plain (λ v. v.0 ∷ v.1) (both (new_name env n) (new_names (with_local n void env) ns))

abbrev pub named : Env → Bool → NameAt → Option Local → t.Expr
named env as_value n None = t.expr (a_value void) (t.name n false false)
named env as_value n (Some l) = t.expr (local_seen env.depth l) (t.name n (is_outer env.depth l) (as_value && is_movable env.depth l))

-- the name that an expression is
abbrev pub name_in : Expr → Option ℕ
name_in (name n) = Some n.name.0
name_in _ = None

-- How an index sees its base: where the index takes away the local that the base names, not directly.
abbrev pub index_view : Option ℕ → View → Expr → View
index_view (Some n) (direct x) e = if takes n true e then shared x else direct x
index_view _ v e = v

-- only the last step of a chain is used as the chain is
abbrev pub is_used : Bool → Steps → Bool
is_used as_value no_steps = as_value
is_used as_value _ = false

abbrev pub block_spot : Block → Spot
block_spot (block at end ss) = at

abbrev pub form_spot : Form → Spot
form_spot (branch at c b es) = at
form_spot (pure at b) = at
form_spot (parallel_range at n a e b) = at
form_spot (parallel_each at n e b) = at

-- the local of a loop over isolates
abbrev pub isolate_of : Option Ty → Ty
isolate_of None = void
isolate_of (Some t) = t

abbrev pub type_in : Option FieldDecl → Option Ty
type_in f = option_map (λ g. type_of (field_type g)) f

abbrev pub is_settable : Option FieldDecl → Bool
is_settable None = false
is_settable (Some (field_decl n may_be_set x)) = may_be_set

module _ (names : List (List ℕ)) (items : List Item) where
  -- `.f` on a base with these fields
  abbrev pub field_step : Bool → Seen → Spot → Name → Option (List FieldDecl) → Option FieldDecl → Judged t.Step
  field_step as_value base at n fields f =
      leaf at (field_rules as_value base fields (type_in f)) (t.field (part_of base.view (type_in f)) base.view (is_settable f) at n)

  -- `.m(args)` on a base with these methods
  abbrev pub method_step : Seen → Spot → Name → Option (List Head) → Option Head → Judged t.Exprs → Judged t.Step
  method_step base at n methods m args =
      node at (λ v. method_rules items base methods m (types v)) (λ v. t.method (method_gives m) base.view at n v) args

  abbrev mutual
    pub expr : Env → Bool → Expr → Judged t.Expr
    expr env as_value (set at p e) =
        node at (λ v. set_rules items (may_be_set v.0) (seen v.0).place (type v.1)) (λ v. t.expr (a_value (set_gives (seen v.0).place)) (t.set at v.0 v.1))
        (both (expr env false p) (expr env true e))
    expr env as_value (chain e ls) =
        plain (λ v. t.expr (chain_seen (seen v.0) v.1) (t.chain v.0 v.1))
        (scoped (expr env true e) (λ a. links env (seen a) ls))
    expr env as_value (unary at op e) =
        node at (λ a. unary_rules op (seen a)) (λ a. t.expr (a_value (unary_gives op (seen a))) (t.unary at op a))
        (expr env (is_value_under op) e)
    expr env as_value (steps e ss) =
        plain (λ v. t.expr (steps_seen (seen v.0) v.1) (t.steps v.0 v.1))
        (scoped (expr env false e) (λ a. steps_from env as_value (name_in e) (seen a) ss))
    expr env as_value (number at n) = fine (t.expr (a_value int) (t.number at n))
    expr env as_value (quote at text) = fine (t.expr (a_value str) (t.quote at text))
    expr env as_value (truth at b) = fine (t.expr (a_value bool) (t.truth at b))
    expr env as_value (name n) = leaf n.at (name_rules n env.scope) (named env as_value n (local_of n.name.0 env.scope))
    expr env as_value (call n es) =
        node n.at (λ v. called_rules items (called names items n) (types v))
        (λ v. t.expr (a_value (called_gives n (called names items n) (types v))) (t.call n (callee (called names items n)) v))
        (exprs env es)
    expr env as_value (paren at e) = plain (λ a. t.expr (a_value (type a)) (t.paren at a)) (expr env true e)
    expr env as_value (array at x es) =
        node at (λ v. array_rules items (type_of x) (types v)) (λ v. t.expr (a_value (y.array (type_of x))) (t.array at (type_of x) v)) (exprs env es)
    expr env as_value (iso at b) =
        node at (λ v. iso_rules items (block_type v)) (λ v. t.expr (a_value (y.iso (block_type v))) (t.iso at v)) (in_block (deeper env) b)
    expr env as_value (form f) = plain (λ v. t.expr (a_value v.0) (t.form v.1)) (in_form env f)

    pub exprs : Env → Exprs → Judged t.Exprs
    exprs env no_exprs = fine t.no_exprs
    exprs env (more_exprs e es) = plain (λ v. t.more_exprs v.0 v.1) (both (expr env true e) (exprs env es))

    -- an operator after an operand of which this is known
    pub operand : Env → Seen → Link → Judged t.Link
    operand env s (link at op e) =
        node at (λ a. link_rules op s.value (type a)) (λ a. t.link (a_value (link_gives op s.value)) at op a) (expr env true e)

    pub links : Env → Seen → Links → Judged t.Links
    links env s no_links = fine t.no_links
    links env s (more_links l ls) =
        plain (λ v. t.more_links v.0 v.1) (scoped (operand env s l) (λ a. links env (link_seen a) ls))

    -- a step from a base of which this is known
    pub step : Env → Bool → Option ℕ → Seen → Step → Judged t.Step
    step env as_value local base (field at n) =
        field_step as_value base at n (fields_seen items base.view) (option_and_then (λ fs. field_named fs n.0) (fields_seen items base.view))
    step env as_value local base (method at n es) =
        method_step base at n (methods_seen items base.view) (option_and_then (λ hs. method_named hs n.0) (methods_seen items base.view)) (exprs env es)
    step env as_value local base (index at e) =
        node at (λ a. index_rules as_value base (elements_seen base.view) (type a))
        (λ a. t.index (part_of base.view (elements_seen base.view)) (index_view local base.view e) at a) (expr env true e)

    pub steps_from : Env → Bool → Option ℕ → Seen → Steps → Judged t.Steps
    steps_from env as_value local base no_steps = fine t.no_steps
    steps_from env as_value local base (more_steps s ss) =
        plain (λ v. t.more_steps v.0 v.1)
        (scoped (step env (is_used as_value ss) local base s) (λ a. steps_from env as_value None (step_seen a) ss))

    -- with the type of its value
    pub in_form : Env → Form → Judged (Ty × t.Form)
    in_form env (branch at c b es) =
        node at (λ v. branch_rules (type v.0 ∷ condition_types v.1.1) (block_type v.1.0) (block_types v.1.1) (has_else v.1.1))
        (λ v. (block_type v.1.0, t.branch at v.0 v.1.0 v.1.1))
        (both (expr env true c) (both (in_block env b) (elses env es)))
    in_form env (pure at b) = plain (λ v. (block_type v, t.pure at v)) (in_block (deeper env) b)
    in_form env (parallel_range at n a e b) =
        node at (λ v. bounds_rules (type v.1.0) (type v.1.1.0))
        (λ v. (parallel_gives items (block_type v.1.1.1), t.parallel_range at n v.1.0 v.1.1.0 v.1.1.1))
        (both (new_name env n) (both (expr env true a) (both (expr env true e) (in_block (with_local n int (deeper env)) b))))
    in_form env (parallel_each at n e b) =
        plain (λ v. (parallel_gives items (block_type v.1), t.parallel_each at n v.0 v.1))
        (scoped (node at (λ v. consumed_rules (type v.1)) (λ v. v.1) (both (new_name env n) (expr env true e)))
        (λ a. in_block (with_local n (isolate_of (isolate_in (type a))) (deeper env)) b))

    pub in_else_if : Env → ElseIf → Judged t.ElseIf
    in_else_if env (else_if at c b) = plain (λ v. t.else_if at v.0 v.1) (both (expr env true c) (in_block env b))

    pub elses : Env → Elses → Judged t.Elses
    elses env no_else = fine t.no_else
    elses env (otherwise b) = plain (λ v. t.otherwise v) (in_block env b)
    elses env (more_elses e es) = plain (λ v. t.more_elses v.0 v.1) (both (in_else_if env e) (elses env es))

    pub in_block : Env → Block → Judged t.Block
    in_block env (block at end ss) = plain (λ v. t.block at end (stmts_type v) v) (stmts env ss)

    -- the block of a function, a `while` or a `foreach`
    pub void_block : Env → Block → Judged t.Block
    void_block env (block at end ss) =
        node at (λ v. void_rules (block_type v)) (λ v. v) (plain (λ v. t.block at end (stmts_type v) v) (stmts env ss))

    pub stmts : Env → Stmts → Judged t.Stmts
    stmts env no_stmts = fine t.no_stmts
    stmts env (last e) = plain (λ v. t.last v) (expr env true e)
    stmts env (more_stmts s ss) = plain (λ v. t.more_stmts v.0 v.1) (scoped (stmt env s) (λ a. stmts (after a env) ss))

    pub stmt : Env → Stmt → Judged t.Stmt
    stmt env (declare n e) = node n.at (λ a. declare_rules n env.scope (type a)) (λ a. t.declare n (type a) a) (expr env true e)
    stmt env (destructure at ns e) =
        node at (λ v. destructure_rules (struct_fields items (type v.1)) ns)
        (λ v. t.destructure at ns (option_map_or field_types (struct_fields items (type v.1)) []) v.1)
        (both (new_names env ns) (expr env true e))
    stmt env (return_nothing at) = leaf at (return_nothing_rules env.gives) (t.return_nothing at)
    stmt env (return_value at e) = node at (λ a. return_value_rules items env.gives (type a)) (λ a. t.return_value at a) (expr env true e)
    stmt env (while at c b) =
        node at (λ v. condition_rules (type v.0)) (λ v. t.while at v.0 v.1) (both (expr env true c) (void_block env b))
    stmt env (foreach at n a e b) =
        node at (λ v. bounds_rules (type v.1.0) (type v.1.1.0)) (λ v. t.foreach at n v.1.0 v.1.1.0 v.1.1.1)
        (both (new_name env n) (both (expr env true a) (both (expr env true e) (void_block (with_local n int env) b))))
    stmt env (form_stmt f) = node (form_spot f) (λ v. void_rules v.0) (λ v. t.form_stmt v.1) (in_form env f)
    stmt env (express e) = plain (λ v. t.express v) (expr env true e)

  -- ---- items

  abbrev pub in_function : Function → Judged t.Function
  in_function (function h b) =
      node (head_name h).at (λ v. function_rules (head_gives h) (block_returns v)) (λ v. t.function_body h v) (void_block (entry h) b)

  abbrev pub in_functions : List Function → Judged (List t.Function)
  in_functions [] = fine []
  in_functions (f ∷ fs) = plain (λ v. v.0 ∷ v.1) (both (in_function f) (in_functions fs))

  abbrev pub in_item : Item → Judged t.Item
  in_item (struct_item n fs) = fine (t.struct_item n fs)
  in_item (interface_item n hs) = fine (t.interface_item n hs)
  in_item (impl_item at i s fs) = plain (λ v. t.impl_item at i s v) (in_functions fs)
  in_item (function_item f) = plain (λ v. t.function_item v) (in_function f)

  abbrev pub in_items : List Item → Judged (List t.Item)
  in_items [] = fine []
  in_items (x ∷ xs) = plain (λ v. v.0 ∷ v.1) (both (in_item x) (in_items xs))

-- the typed tree, where no node breaks a rule; else the faults
abbrev pub typed : Tree → Judged t.Typed
typed (tree names items) = plain (λ v. t.typed names v) (in_items names items items)
