-- Whether an expression takes a local away: it names the local as a value, or sets it.
use Rattle.std.specs.Prelude.{ℕ, Bool, true, false, ◌||◌, ◌&&◌, ◌==◌}
use Rattle.vale_syntax.specs.declared.tree.UnaryOp.{UnaryOp}
use Rattle.vale_syntax.specs.declared.tree.UnaryOp.TheVariants.{Borrow}
use Rattle.vale_syntax.specs.Tree.{Expr, set, chain, unary, steps, number, quote, truth, name, call, paren, array, iso, form, Exprs, no_exprs, more_exprs, Link, link, Links, no_links, more_links, Step, field, method, index, Steps, no_steps, more_steps, Form, branch, pure, parallel_range, parallel_each, ElseIf, else_if, Elses, no_else, otherwise, more_elses, Block, block, Stmt, declare, destructure, return_nothing, return_value, while, foreach, form_stmt, express, Stmts, no_stmts, last, more_stmts}

-- under `&` the operand isn't a value
abbrev pub is_value_under : UnaryOp → Bool
is_value_under Borrow = false
is_value_under _ = true

module _ (local : ℕ) where
  -- exactly the local
  abbrev pub is_local : Expr → Bool
  is_local (name n) = n.name.0 == local
  is_local _ = false

  abbrev mutual
    -- with whether it is used as a value: what steps start from, the place of `set` and what stands under `&` aren't
    pub takes : Bool → Expr → Bool
    takes as_value (set at p e) = is_local p || takes false p || takes true e
    takes as_value (chain e ls) = takes true e || links_take ls
    takes as_value (unary at op e) = takes (is_value_under op) e
    takes as_value (steps e ss) = takes false e || steps_take ss
    takes as_value (number at n) = false
    takes as_value (quote at text) = false
    takes as_value (truth at b) = false
    takes as_value (name n) = as_value && (n.name.0 == local)
    takes as_value (call n es) = exprs_take es
    takes as_value (paren at e) = takes true e
    takes as_value (array at x es) = exprs_take es
    takes as_value (iso at b) = block_takes b
    takes as_value (form f) = form_takes f

    pub exprs_take : Exprs → Bool
    exprs_take no_exprs = false
    exprs_take (more_exprs e es) = takes true e || exprs_take es

    pub link_takes : Link → Bool
    link_takes (link at op e) = takes true e

    pub links_take : Links → Bool
    links_take no_links = false
    links_take (more_links l ls) = link_takes l || links_take ls

    pub step_takes : Step → Bool
    step_takes (field at n) = false
    step_takes (method at n es) = exprs_take es
    step_takes (index at e) = takes true e

    pub steps_take : Steps → Bool
    steps_take no_steps = false
    steps_take (more_steps s ss) = step_takes s || steps_take ss

    pub form_takes : Form → Bool
    form_takes (branch at c b es) = takes true c || block_takes b || elses_take es
    form_takes (pure at b) = block_takes b
    form_takes (parallel_range at n a e b) = takes true a || takes true e || block_takes b
    form_takes (parallel_each at n e b) = takes true e || block_takes b

    pub else_if_takes : ElseIf → Bool
    else_if_takes (else_if at c b) = takes true c || block_takes b

    pub elses_take : Elses → Bool
    elses_take no_else = false
    elses_take (otherwise b) = block_takes b
    elses_take (more_elses e es) = else_if_takes e || elses_take es

    pub block_takes : Block → Bool
    block_takes (block at end ss) = stmts_take ss

    pub stmts_take : Stmts → Bool
    stmts_take no_stmts = false
    stmts_take (last e) = takes true e
    stmts_take (more_stmts s ss) = stmt_takes s || stmts_take ss

    pub stmt_takes : Stmt → Bool
    stmt_takes (declare n e) = takes true e
    stmt_takes (destructure at ns e) = takes true e
    stmt_takes (return_nothing at) = false
    stmt_takes (return_value at e) = takes true e
    stmt_takes (while at c b) = takes true c || block_takes b
    stmt_takes (foreach at n a e b) = takes true a || takes true e || block_takes b
    stmt_takes (form_stmt f) = form_takes f
    stmt_takes (express e) = takes true e
