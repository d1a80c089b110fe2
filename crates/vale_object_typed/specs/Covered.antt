-- What the law speaks of: no isolates and no `&imm`, no methods and no loops in parallel, and no names from outside of a block.
use Rattle.std.specs.Prelude.{◌≡◌, ℕ, true, false, List, [], ◌∷◌, Some, slice_get}
use Rattle.std.specs.List.{list_any}
use Rattle.vale_syntax.specs.declared.tree.UnaryOp.{UnaryOp}
use Rattle.vale_syntax.specs.declared.tree.UnaryOp.TheVariants as unary_op
use Rattle.vale_rules_spec.specs.Types.{Ty, same, is_owner, is_frozen, type_of}
use Rattle.vale_rules_spec.specs.Types as y
use Rattle.vale_rules_spec.specs.Typed.{Callee, function, Expr, expr, Node, set, chain, unary, steps, number, quote, truth, name, call, paren, array, iso, form, Exprs, no_exprs, more_exprs, link, Links, no_links, more_links, Step, field, method, index, Steps, no_steps, more_steps, Form, branch, pure, parallel_range, parallel_each, else_if, Elses, no_else, otherwise, more_elses, Block, block, Stmt, declare, destructure, return_nothing, return_value, while, foreach, form_stmt, express, Stmts, no_stmts, last, more_stmts, Function, function_body}
use Rattle.vale_lowering.specs.Scopes.{number_of_text}

-- in a program with these kinds, whose code has these texts
module _ (kinds : List Ty) (texts : List (List ℕ)) where
  -- an owner's types are among the kinds
  abbrev pub type_is_covered : Ty → Type 0
  type_is_covered (y.kind n) = list_any (same (y.kind n)) kinds ≡ true
  type_is_covered (y.array x) = (list_any (same (y.array x)) kinds ≡ true) × type_is_covered x
  type_is_covered (y.ref x) = (is_owner x ≡ true) × type_is_covered x
  type_is_covered (y.imm x) = ⊥
  type_is_covered (y.iso x) = ⊥
  type_is_covered _ = Unit {0}

  abbrev pub types_are_covered : List Ty → Type 0
  types_are_covered [] = Unit {0}
  types_are_covered (x ∷ xs) = type_is_covered x × types_are_covered xs

  abbrev pub unary_is_covered : UnaryOp → Type 0
  unary_is_covered unary_op.Merge = ⊥
  unary_is_covered _ = Unit {0}

  abbrev pub callee_is_covered : Callee → Type 0
  callee_is_covered (function true) = ⊥
  callee_is_covered _ = Unit {0}

  -- an operator follows
  abbrev pub has_operator : Links → Type 0
  has_operator no_links = ⊥
  has_operator (more_links l ls) = Unit {0}

  -- what steps start from has no steps of its own
  abbrev pub starts : Expr → Type 0
  starts (expr s (steps e ss)) = ⊥
  starts _ = Unit {0}

  abbrev mutual
    pub expr_is_covered : Expr → Type 0
    expr_is_covered (expr s node) = type_is_covered s.value × node_is_covered node

    pub node_is_covered : Node → Type 0
    node_is_covered (set at p e) = expr_is_covered p × expr_is_covered e
    node_is_covered (chain e ls) = expr_is_covered e × has_operator ls × links_are_covered ls
    node_is_covered (unary at op e) = unary_is_covered op × expr_is_covered e
    node_is_covered (steps e no_steps) = ⊥
    node_is_covered (steps e (more_steps x xs)) = starts e × expr_is_covered e × step_is_covered x × steps_are_covered xs
    node_is_covered (number at n) = Unit {0}
    node_is_covered (quote at text) = slice_get texts (number_of_text text texts) ≡ Some text
    node_is_covered (truth at b) = Unit {0}
    node_is_covered (name n is_outer moved) = is_outer ≡ false
    node_is_covered (call n f es) = callee_is_covered f × exprs_are_covered es
    node_is_covered (paren at e) = expr_is_covered e
    node_is_covered (array at x es) = exprs_are_covered es
    node_is_covered (iso at b) = ⊥
    node_is_covered (form f) = form_is_covered f

    pub exprs_are_covered : Exprs → Type 0
    exprs_are_covered no_exprs = Unit {0}
    exprs_are_covered (more_exprs e es) = expr_is_covered e × exprs_are_covered es

    pub links_are_covered : Links → Type 0
    links_are_covered no_links = Unit {0}
    links_are_covered (more_links (link s at op e) ls) = expr_is_covered e × links_are_covered ls

    pub step_is_covered : Step → Type 0
    step_is_covered (field s v may_be_set at n) = type_is_covered s.value × (is_frozen v ≡ false)
    step_is_covered (method s v at n es) = ⊥
    step_is_covered (index s v at e) = type_is_covered s.value × (is_frozen v ≡ false) × expr_is_covered e

    pub steps_are_covered : Steps → Type 0
    steps_are_covered no_steps = Unit {0}
    steps_are_covered (more_steps x xs) = step_is_covered x × steps_are_covered xs

    pub form_is_covered : Form → Type 0
    form_is_covered (branch at c b es) = expr_is_covered c × block_is_covered b × elses_are_covered es
    form_is_covered (pure at b) = ⊥
    form_is_covered (parallel_range at n a e b) = ⊥
    form_is_covered (parallel_each at n e b) = ⊥

    pub elses_are_covered : Elses → Type 0
    elses_are_covered no_else = Unit {0}
    elses_are_covered (otherwise b) = block_is_covered b
    elses_are_covered (more_elses (else_if at c b) es) = expr_is_covered c × block_is_covered b × elses_are_covered es

    pub block_is_covered : Block → Type 0
    block_is_covered (block at end x ss) = stmts_are_covered ss

    pub stmts_are_covered : Stmts → Type 0
    stmts_are_covered no_stmts = Unit {0}
    stmts_are_covered (last e) = expr_is_covered e
    stmts_are_covered (more_stmts s ss) = stmt_is_covered s × stmts_are_covered ss

    pub stmt_is_covered : Stmt → Type 0
    stmt_is_covered (declare n x e) = expr_is_covered e
    stmt_is_covered (destructure at ns xs e) = expr_is_covered e
    stmt_is_covered (return_nothing at) = Unit {0}
    stmt_is_covered (return_value at e) = expr_is_covered e
    stmt_is_covered (while at c b) = expr_is_covered c × block_is_covered b
    stmt_is_covered (foreach at n a e b) = expr_is_covered a × expr_is_covered e × block_is_covered b
    stmt_is_covered (form_stmt f) = form_is_covered f
    stmt_is_covered (express e) = expr_is_covered e

  abbrev pub function_is_covered : Function → Type 0
  function_is_covered (function_body h b) = block_is_covered b

  abbrev pub functions_are_covered : List Function → Type 0
  functions_are_covered [] = Unit {0}
  functions_are_covered (f ∷ fs) = function_is_covered f × functions_are_covered fs
