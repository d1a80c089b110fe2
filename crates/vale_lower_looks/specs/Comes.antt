-- Whether a run may come behind a part: none does behind what always returns. It is so wherever the part stands.
use Rattle.std.specs.Prelude.{Bool, true, false, ◌&&◌, ◌||◌}
use Rattle.vale_syntax.specs.declared.tree.BinaryOp.{BinaryOp}
use Rattle.vale_syntax.specs.declared.tree.BinaryOp.TheVariants as op
use Rattle.vale_rules_spec.specs.Typed.{Expr, expr, Node, set, chain, unary, steps, number, quote, truth, name, call, paren, array, iso, form, Exprs, no_exprs, more_exprs, link, Links, no_links, more_links, Step, field, method, index, Steps, no_steps, more_steps, Form, branch, pure, parallel_range, parallel_each, else_if, Elses, no_else, otherwise, more_elses, Block, block, Stmt, declare, destructure, return_nothing, return_value, while, foreach, form_stmt, express, Stmts, no_stmts, last, more_stmts}

-- an operand that may not run is passed
abbrev pub operand_comes : BinaryOp → Bool → Bool
operand_comes op.Or operand = true
operand_comes op.And operand = true
operand_comes o operand = operand

abbrev mutual
  pub expr_comes : Expr → Bool
  expr_comes (expr x node) = node_comes node

  pub node_comes : Node → Bool
  node_comes (set at p e) = expr_comes e && place_comes p
  node_comes (chain e ls) = expr_comes e && links_come ls
  node_comes (unary at op e) = expr_comes e
  node_comes (steps e ss) = based (expr_comes e) ss
  node_comes (number at n) = true
  node_comes (quote at text) = true
  node_comes (truth at b) = true
  node_comes (name n is_outer moved) = true
  node_comes (call n f es) = exprs_come es
  node_comes (paren at e) = expr_comes e
  node_comes (array at x es) = exprs_come es
  node_comes (iso at b) = block_comes b
  node_comes (form f) = form_comes f

  -- steps, by whether a run comes behind what they start from
  pub based : Bool → Steps → Bool
  based base no_steps = true
  based base (more_steps x xs) = base && (step_comes x && steps_come xs)

  -- the place of a `set`
  pub place_comes : Expr → Bool
  place_comes (expr x (steps e ss)) = based (expr_comes e) ss
  place_comes (expr x _) = true

  pub exprs_come : Exprs → Bool
  exprs_come no_exprs = true
  exprs_come (more_exprs e es) = expr_comes e && exprs_come es

  pub links_come : Links → Bool
  links_come no_links = true
  links_come (more_links (link x at op e) ls) = operand_comes op (expr_comes e) && links_come ls

  pub step_comes : Step → Bool
  step_comes (field x view may_be_set at m) = true
  step_comes (method x view at m es) = true
  step_comes (index x view at e) = expr_comes e

  pub steps_come : Steps → Bool
  steps_come no_steps = true
  steps_come (more_steps x xs) = step_comes x && steps_come xs

  pub form_comes : Form → Bool
  form_comes (branch at c b es) = expr_comes c && (block_comes b || elses_come es)
  form_comes (pure at b) = block_comes b
  form_comes (parallel_range at n a e b) = true
  form_comes (parallel_each at n e b) = true

  pub elses_come : Elses → Bool
  elses_come no_else = true
  elses_come (otherwise b) = block_comes b
  elses_come (more_elses (else_if at c b) es) = expr_comes c && (block_comes b || elses_come es)

  pub block_comes : Block → Bool
  block_comes (block at end x ss) = stmts_come ss

  pub stmts_come : Stmts → Bool
  stmts_come no_stmts = true
  stmts_come (last e) = expr_comes e
  stmts_come (more_stmts x ss) = stmt_comes x && stmts_come ss

  pub stmt_comes : Stmt → Bool
  stmt_comes (declare n x e) = expr_comes e
  stmt_comes (destructure at ns xs e) = expr_comes e
  stmt_comes (return_nothing at) = false
  stmt_comes (return_value at e) = false
  stmt_comes (while at c b) = expr_comes c
  stmt_comes (foreach at n a e b) = expr_comes a && expr_comes e
  stmt_comes (form_stmt f) = form_comes f
  stmt_comes (express e) = expr_comes e
