-- Where the rules of freezes are broken, in post-order.
use Rattle.std.specs.Prelude.{Bool, true, false, List, [], ◌∷◌, ◌++◌, if◌then◌else◌}
use Rattle.vale_syntax.specs.declared.fault.Fault.{Fault}
use Rattle.vale_syntax.specs.Tree.{Param, param, Head, head}
use Rattle.vale_rules_spec.specs.Judged.{Judged, own, unless}
use Rattle.vale_rules_spec.specs.Types.{Seen}
use Rattle.vale_rules_spec.specs.TypeRules.{head_gives}
use Rattle.vale_rules_spec.specs.Takes.{is_value_under}
use Rattle.vale_rules_spec.specs.Typed.{Expr, expr, Node, set, chain, unary, steps, number, quote, truth, name, call, paren, array, iso, form, Exprs, no_exprs, more_exprs, Link, link, Links, no_links, more_links, Step, field, method, index, Steps, no_steps, more_steps, Form, branch, pure, parallel_range, parallel_each, ElseIf, else_if, Elses, no_else, otherwise, more_elses, Block, block, Stmt, declare, destructure, return_nothing, return_value, while, foreach, form_stmt, express, Stmts, no_stmts, last, more_stmts, Function, function_body, Item, struct_item, interface_item, impl_item, function_item, Typed, typed, type, types, block_type}
use Rattle.vale_region_spec.specs.declared.around.Around.{Around}
use Rattle.vale_region_spec.specs.RegionRules.{is_ref, call_rules, method_called, method_rules, array_rules, name_rules, set_rules, pure_rules, return_rules, return_nothing_rules, param_rules, result_rules}

abbrev pub inside : Around → Around
inside r = record { gives_ref = r.gives_ref; is_inside = true }

-- the body of a function
abbrev pub entry : Head → Around
entry h = record { gives_ref = is_ref (head_gives h); is_inside = false }

-- ---- heads

abbrev pub param_faults : Param → List Fault
param_faults (param n x) = own n.at (param_rules (param n x))

abbrev pub params_faults : List Param → List Fault
params_faults [] = []
params_faults (p ∷ ps) = param_faults p ++ params_faults ps

-- a pure function's, or a pure method's
abbrev pub head_faults : Head → List Fault
head_faults (head is_pure n ps x) = if is_pure then params_faults ps ++ own n.at (result_rules x) else []

abbrev pub heads_faults : List Head → List Fault
heads_faults [] = []
heads_faults (h ∷ hs) = head_faults h ++ heads_faults hs

-- ---- bodies

module _ (items : List Item) where
  abbrev mutual
    -- with whether it is used as a value: what steps start from, the place of `set` and what stands under `&` aren't
    pub expr_faults : Around → Bool → Expr → List Fault
    expr_faults r as_value (expr s node) = node_faults r as_value s node

    pub node_faults : Around → Bool → Seen → Node → List Fault
    node_faults r as_value s (set at p e) = expr_faults r false p ++ (expr_faults r true e ++ own at (set_rules p (type e)))
    node_faults r as_value s (chain e ls) = expr_faults r true e ++ links_faults r ls
    node_faults r as_value s (unary at op e) = expr_faults r (is_value_under op) e
    node_faults r as_value s (steps e ss) = expr_faults r false e ++ steps_faults r ss
    node_faults r as_value s (number at n) = []
    node_faults r as_value s (quote at text) = []
    node_faults r as_value s (truth at b) = []
    node_faults r as_value s (name n is_outer is_moved) = own n.at (name_rules as_value s is_outer)
    node_faults r as_value s (call n f es) = exprs_faults r es ++ own n.at (call_rules items n f (types es))
    node_faults r as_value s (paren at e) = expr_faults r true e
    node_faults r as_value s (array at t es) = exprs_faults r es ++ own at (array_rules t (types es))
    node_faults r as_value s (iso at b) = block_faults (inside r) b
    node_faults r as_value s (form f) = form_faults r f

    pub exprs_faults : Around → Exprs → List Fault
    exprs_faults r no_exprs = []
    exprs_faults r (more_exprs e es) = expr_faults r true e ++ exprs_faults r es

    pub link_faults : Around → Link → List Fault
    link_faults r (link s at op e) = expr_faults r true e

    pub links_faults : Around → Links → List Fault
    links_faults r no_links = []
    links_faults r (more_links l ls) = link_faults r l ++ links_faults r ls

    pub step_faults : Around → Step → List Fault
    step_faults r (field s v may_be_set at n) = []
    step_faults r (method s v at n es) = exprs_faults r es ++ own at (method_rules v (method_called items v n.0) (types es))
    step_faults r (index s v at e) = expr_faults r true e

    pub steps_faults : Around → Steps → List Fault
    steps_faults r no_steps = []
    steps_faults r (more_steps s ss) = step_faults r s ++ steps_faults r ss

    pub form_faults : Around → Form → List Fault
    form_faults r (branch at c b es) = expr_faults r true c ++ (block_faults r b ++ elses_faults r es)
    form_faults r (pure at b) = block_faults (inside r) b ++ own at (pure_rules (block_type b))
    form_faults r (parallel_range at n a e b) = expr_faults r true a ++ (expr_faults r true e ++ block_faults (inside r) b)
    form_faults r (parallel_each at n e b) = expr_faults r true e ++ block_faults (inside r) b

    pub else_if_faults : Around → ElseIf → List Fault
    else_if_faults r (else_if at c b) = expr_faults r true c ++ block_faults r b

    pub elses_faults : Around → Elses → List Fault
    elses_faults r no_else = []
    elses_faults r (otherwise b) = block_faults r b
    elses_faults r (more_elses e es) = else_if_faults r e ++ elses_faults r es

    pub block_faults : Around → Block → List Fault
    block_faults r (block at end t ss) = stmts_faults r ss

    pub stmts_faults : Around → Stmts → List Fault
    stmts_faults r no_stmts = []
    stmts_faults r (last e) = expr_faults r true e
    stmts_faults r (more_stmts s ss) = stmt_faults r s ++ stmts_faults r ss

    pub stmt_faults : Around → Stmt → List Fault
    stmt_faults r (declare n t e) = expr_faults r true e
    stmt_faults r (destructure at ns ts e) = expr_faults r true e
    stmt_faults r (return_nothing at) = own at (return_nothing_rules r)
    stmt_faults r (return_value at e) = expr_faults r true e ++ own at (return_rules r (type e))
    stmt_faults r (while at c b) = expr_faults r true c ++ block_faults r b
    stmt_faults r (foreach at n a e b) = expr_faults r true a ++ (expr_faults r true e ++ block_faults r b)
    stmt_faults r (form_stmt f) = form_faults r f
    stmt_faults r (express e) = expr_faults r true e

  -- ---- items

  abbrev pub function_faults : Function → List Fault
  function_faults (function_body h b) = head_faults h ++ block_faults (entry h) b

  abbrev pub functions_faults : List Function → List Fault
  functions_faults [] = []
  functions_faults (f ∷ fs) = function_faults f ++ functions_faults fs

  abbrev pub item_faults : Item → List Fault
  item_faults (struct_item n fs) = []
  item_faults (interface_item n hs) = heads_faults hs
  item_faults (impl_item at i s fs) = functions_faults fs
  item_faults (function_item f) = function_faults f

  abbrev pub items_faults : List Item → List Fault
  items_faults [] = []
  items_faults (x ∷ xs) = item_faults x ++ items_faults xs

-- the faults of a program; where it has none it keeps the rules of freezes
abbrev pub framed : Typed → Judged (Unit {0})
framed (typed names items) = unless (items_faults items items) tt
