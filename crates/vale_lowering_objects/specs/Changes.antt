-- Whether a part sets a local or moves it: one that does neither leaves what the local holds.
use Rattle.std.specs.Prelude.{ℕ, Bool, false, ◌||◌, ◌&&◌, ◌==◌}
use Rattle.vale_rules_spec.specs.Typed.{Expr, expr, Node, set, chain, unary, steps, number, quote, truth, name, call, paren, array, iso, form, Exprs, no_exprs, more_exprs, link, Links, no_links, more_links, Step, field, method, index, Steps, no_steps, more_steps, Form, branch, pure, parallel_range, parallel_each, else_if, Elses, no_else, otherwise, more_elses, Block, block, Stmt, declare, destructure, return_nothing, return_value, while, foreach, form_stmt, express, Stmts, no_stmts, last, more_stmts}

module _ (local : ℕ) where
  -- exactly the local
  abbrev pub is_local : Expr → Bool
  is_local (expr x (name n is_outer moved)) = n.name.0 == local
  is_local (expr x _) = false

  abbrev mutual
    pub expr_changes : Expr → Bool
    expr_changes (expr x node) = node_changes node

    pub node_changes : Node → Bool
    node_changes (set at p e) = is_local p || expr_changes p || expr_changes e
    node_changes (chain e ls) = expr_changes e || links_change ls
    node_changes (unary at op e) = expr_changes e
    node_changes (steps e ss) = expr_changes e || steps_change ss
    node_changes (number at n) = false
    node_changes (quote at text) = false
    node_changes (truth at b) = false
    node_changes (name n is_outer moved) = moved && (n.name.0 == local)
    node_changes (call n f es) = exprs_change es
    node_changes (paren at e) = expr_changes e
    node_changes (array at x es) = exprs_change es
    node_changes (iso at b) = block_changes b
    node_changes (form f) = form_changes f

    pub exprs_change : Exprs → Bool
    exprs_change no_exprs = false
    exprs_change (more_exprs e es) = expr_changes e || exprs_change es

    pub links_change : Links → Bool
    links_change no_links = false
    links_change (more_links (link x at op e) ls) = expr_changes e || links_change ls

    pub step_changes : Step → Bool
    step_changes (field x view may_be_set at n) = false
    step_changes (method x view at n es) = exprs_change es
    step_changes (index x view at e) = expr_changes e

    pub steps_change : Steps → Bool
    steps_change no_steps = false
    steps_change (more_steps x xs) = step_changes x || steps_change xs

    pub form_changes : Form → Bool
    form_changes (branch at c b es) = expr_changes c || block_changes b || elses_change es
    form_changes (pure at b) = block_changes b
    form_changes (parallel_range at n a e b) = expr_changes a || expr_changes e || block_changes b
    form_changes (parallel_each at n e b) = expr_changes e || block_changes b

    pub elses_change : Elses → Bool
    elses_change no_else = false
    elses_change (otherwise b) = block_changes b
    elses_change (more_elses (else_if at c b) es) = expr_changes c || block_changes b || elses_change es

    pub block_changes : Block → Bool
    block_changes (block at end x ss) = stmts_change ss

    pub stmts_change : Stmts → Bool
    stmts_change no_stmts = false
    stmts_change (last e) = expr_changes e
    stmts_change (more_stmts x ss) = stmt_changes x || stmts_change ss

    pub stmt_changes : Stmt → Bool
    stmt_changes (declare n x e) = expr_changes e
    stmt_changes (destructure at ns xs e) = expr_changes e
    stmt_changes (return_nothing at) = false
    stmt_changes (return_value at e) = expr_changes e
    stmt_changes (while at c b) = expr_changes c || block_changes b
    stmt_changes (foreach at n a e b) = expr_changes a || expr_changes e || block_changes b
    stmt_changes (form_stmt f) = form_changes f
    stmt_changes (express e) = expr_changes e
