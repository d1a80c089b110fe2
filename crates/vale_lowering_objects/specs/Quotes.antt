-- The quotes of a program's parts, in the order of its text.
use Rattle.std.specs.Prelude.{ℕ, List, [], ◌∷◌, ◌++◌}
use Rattle.vale_rules_spec.specs.Typed.{Expr, expr, Node, set, chain, unary, steps, number, quote, truth, name, call, paren, array, iso, form, Exprs, no_exprs, more_exprs, link, Links, no_links, more_links, Step, field, method, index, Steps, no_steps, more_steps, Form, branch, pure, parallel_range, parallel_each, else_if, Elses, no_else, otherwise, more_elses, Block, block, Stmt, declare, destructure, return_nothing, return_value, while, foreach, form_stmt, express, Stmts, no_stmts, last, more_stmts, Function, function_body}

abbrev mutual
  pub expr_quotes : Expr → List (List ℕ)
  expr_quotes (expr x node) = node_quotes node

  pub node_quotes : Node → List (List ℕ)
  node_quotes (quote at text) = text ∷ []
  node_quotes (set at p e) = expr_quotes p ++ expr_quotes e
  node_quotes (chain e ls) = expr_quotes e ++ links_quotes ls
  node_quotes (unary at op e) = expr_quotes e
  node_quotes (steps e ss) = expr_quotes e ++ steps_quotes ss
  node_quotes (number at n) = []
  node_quotes (truth at b) = []
  node_quotes (name n is_outer moved) = []
  node_quotes (call n f es) = exprs_quotes es
  node_quotes (paren at e) = expr_quotes e
  node_quotes (array at x es) = exprs_quotes es
  node_quotes (iso at b) = block_quotes b
  node_quotes (form f) = form_quotes f

  pub exprs_quotes : Exprs → List (List ℕ)
  exprs_quotes no_exprs = []
  exprs_quotes (more_exprs e es) = expr_quotes e ++ exprs_quotes es

  pub links_quotes : Links → List (List ℕ)
  links_quotes no_links = []
  links_quotes (more_links (link x at op e) ls) = expr_quotes e ++ links_quotes ls

  pub steps_quotes : Steps → List (List ℕ)
  steps_quotes no_steps = []
  steps_quotes (more_steps x xs) = step_quotes x ++ steps_quotes xs

  pub step_quotes : Step → List (List ℕ)
  step_quotes (field x view may_be_set at n) = []
  step_quotes (method x view at n es) = exprs_quotes es
  step_quotes (index x view at e) = expr_quotes e

  pub form_quotes : Form → List (List ℕ)
  form_quotes (branch at c b es) = expr_quotes c ++ block_quotes b ++ elses_quotes es
  form_quotes (pure at b) = block_quotes b
  form_quotes (parallel_range at n a e b) = expr_quotes a ++ expr_quotes e ++ block_quotes b
  form_quotes (parallel_each at n e b) = expr_quotes e ++ block_quotes b

  pub elses_quotes : Elses → List (List ℕ)
  elses_quotes no_else = []
  elses_quotes (otherwise b) = block_quotes b
  elses_quotes (more_elses (else_if at c b) es) = expr_quotes c ++ block_quotes b ++ elses_quotes es

  pub block_quotes : Block → List (List ℕ)
  block_quotes (block at end x ss) = stmts_quotes ss

  pub stmts_quotes : Stmts → List (List ℕ)
  stmts_quotes no_stmts = []
  stmts_quotes (last e) = expr_quotes e
  stmts_quotes (more_stmts x ss) = stmt_quotes x ++ stmts_quotes ss

  pub stmt_quotes : Stmt → List (List ℕ)
  stmt_quotes (declare n x e) = expr_quotes e
  stmt_quotes (destructure at ns xs e) = expr_quotes e
  stmt_quotes (return_nothing at) = []
  stmt_quotes (return_value at e) = expr_quotes e
  stmt_quotes (while at c b) = expr_quotes c ++ block_quotes b
  stmt_quotes (foreach at n a e b) = expr_quotes a ++ expr_quotes e ++ block_quotes b
  stmt_quotes (form_stmt f) = form_quotes f
  stmt_quotes (express e) = expr_quotes e

abbrev pub function_quotes : Function → List (List ℕ)
function_quotes (function_body h b) = block_quotes b
