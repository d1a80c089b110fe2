-- Whether a typed block always returns: one of its statements is a `return`, or an `if` with `else` all of whose blocks always
-- return. An `if` that is the block's last expression, or a statement with `;`, counts as one.
use Rattle.std.specs.Prelude.{Bool, true, false, ◌||◌, ◌&&◌}
use Rattle.vale_rules_spec.specs.Typed.{Expr, expr, Node, form, Form, branch, else_if, Elses, no_else, otherwise, more_elses, Block, block, Stmt, return_nothing, return_value, form_stmt, express, Stmts, no_stmts, last, more_stmts}

abbrev mutual
  pub block_returns : Block → Bool
  block_returns (block at end x ss) = stmts_return ss

  pub stmts_return : Stmts → Bool
  stmts_return no_stmts = false
  stmts_return (last e) = expr_returns e
  stmts_return (more_stmts s ss) = stmt_returns s || stmts_return ss

  pub stmt_returns : Stmt → Bool
  stmt_returns (return_nothing at) = true
  stmt_returns (return_value at e) = true
  stmt_returns (form_stmt f) = form_returns f
  stmt_returns (express e) = expr_returns e
  stmt_returns _ = false

  -- exactly an `if`
  pub expr_returns : Expr → Bool
  expr_returns (expr x node) = node_returns node

  pub node_returns : Node → Bool
  node_returns (form f) = form_returns f
  node_returns _ = false

  pub form_returns : Form → Bool
  form_returns (branch at c b es) = block_returns b && elses_return es
  form_returns _ = false

  pub elses_return : Elses → Bool
  elses_return no_else = false
  elses_return (otherwise b) = block_returns b
  elses_return (more_elses (else_if at c b) es) = block_returns b && elses_return es
