-- The sites of a typed tree: where the object that a part works on is asked for being alive. They are each method call, each
-- `len` of an array, each `push` and `pop`, and each field and element step whose base isn't seen directly.
use Rattle.std.specs.Prelude.{ℕ, ◌+◌, List, [], ◌∷◌}
use Rattle.vale_syntax.specs.declared.built_in.BuiltIn.TheVariants.{Len, Push, Pop}
use Rattle.vale_rules_spec.specs.Types.{Ty, str, View, direct}
use Rattle.vale_rules_spec.specs.Typed.{Callee, built_in, Expr, expr, Node, set, chain, unary, steps, number, quote, truth, name, call, paren, array, iso, form, Exprs, no_exprs, more_exprs, Link, link, Links, no_links, more_links, Step, field, method, index, Steps, no_steps, more_steps, Form, branch, pure, parallel_range, parallel_each, ElseIf, else_if, Elses, no_else, otherwise, more_elses, Block, block, Stmt, declare, destructure, return_nothing, return_value, while, foreach, form_stmt, express, Stmts, no_stmts, last, more_stmts, Function, function_body, Item, impl_item, function_item, Typed, typed, types}

-- one, where the base of a field or an element isn't seen directly
abbrev pub at_base : View → ℕ
at_base (direct x) = 0
at_base _ = 1

-- one, unless it is the `len` of a text
abbrev pub at_len : List Ty → ℕ
at_len (str ∷ []) = 0
at_len _ = 1

abbrev pub at_call : Callee → List Ty → ℕ
at_call (built_in Len) args = at_len args
at_call (built_in Push) args = 1
at_call (built_in Pop) args = 1
at_call _ args = 0

abbrev mutual
  pub expr_sites : Expr → ℕ
  expr_sites (expr s node) = node_sites node

  pub node_sites : Node → ℕ
  node_sites (set at p e) = expr_sites p + expr_sites e
  node_sites (chain e ls) = expr_sites e + links_sites ls
  node_sites (unary at op e) = expr_sites e
  node_sites (steps e ss) = expr_sites e + steps_sites ss
  node_sites (number at n) = 0
  node_sites (quote at text) = 0
  node_sites (truth at b) = 0
  node_sites (name n is_outer moved) = 0
  node_sites (call n f es) = exprs_sites es + at_call f (types es)
  node_sites (paren at e) = expr_sites e
  node_sites (array at x es) = exprs_sites es
  node_sites (iso at b) = block_sites b
  node_sites (form f) = form_sites f

  pub exprs_sites : Exprs → ℕ
  exprs_sites no_exprs = 0
  exprs_sites (more_exprs e es) = expr_sites e + exprs_sites es

  pub link_sites : Link → ℕ
  link_sites (link s at op e) = expr_sites e

  pub links_sites : Links → ℕ
  links_sites no_links = 0
  links_sites (more_links l ls) = link_sites l + links_sites ls

  pub step_sites : Step → ℕ
  step_sites (field s v may_be_set at n) = at_base v
  step_sites (method s v at n es) = exprs_sites es + 1
  step_sites (index s v at e) = expr_sites e + at_base v

  pub steps_sites : Steps → ℕ
  steps_sites no_steps = 0
  steps_sites (more_steps s ss) = step_sites s + steps_sites ss

  pub form_sites : Form → ℕ
  form_sites (branch at c b es) = expr_sites c + block_sites b + elses_sites es
  form_sites (pure at b) = block_sites b
  form_sites (parallel_range at n a e b) = expr_sites a + expr_sites e + block_sites b
  form_sites (parallel_each at n e b) = expr_sites e + block_sites b

  pub else_if_sites : ElseIf → ℕ
  else_if_sites (else_if at c b) = expr_sites c + block_sites b

  pub elses_sites : Elses → ℕ
  elses_sites no_else = 0
  elses_sites (otherwise b) = block_sites b
  elses_sites (more_elses e es) = else_if_sites e + elses_sites es

  pub block_sites : Block → ℕ
  block_sites (block at end t ss) = stmts_sites ss

  pub stmts_sites : Stmts → ℕ
  stmts_sites no_stmts = 0
  stmts_sites (last e) = expr_sites e
  stmts_sites (more_stmts s ss) = stmt_sites s + stmts_sites ss

  pub stmt_sites : Stmt → ℕ
  stmt_sites (declare n t e) = expr_sites e
  stmt_sites (destructure at ns ts e) = expr_sites e
  stmt_sites (return_nothing at) = 0
  stmt_sites (return_value at e) = expr_sites e
  stmt_sites (while at c b) = expr_sites c + block_sites b
  stmt_sites (foreach at n a e b) = expr_sites a + expr_sites e + block_sites b
  stmt_sites (form_stmt f) = form_sites f
  stmt_sites (express e) = expr_sites e

abbrev pub function_sites : Function → ℕ
function_sites (function_body h b) = block_sites b

abbrev pub functions_sites : List Function → ℕ
functions_sites [] = 0
functions_sites (f ∷ fs) = function_sites f + functions_sites fs

abbrev pub item_sites : Item → ℕ
item_sites (impl_item at i s fs) = functions_sites fs
item_sites (function_item f) = function_sites f
item_sites _ = 0

abbrev pub items_sites : List Item → ℕ
items_sites [] = 0
items_sites (x ∷ xs) = item_sites x + items_sites xs

-- how many the program has
abbrev pub sites : Typed → ℕ
sites (typed names items) = items_sites items
