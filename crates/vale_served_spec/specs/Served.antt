-- Which programs are served so far, which means that they are compiled and run: functions that aren't pure, numbers, truths and
-- texts; names, literals, operators but `&` and `merge`, calls of functions and of the built-in functions on such values,
-- parentheses, `if`, blocks, declarations, `set` of a local, `return`, `while` and `foreach`.
use Rattle.std.specs.Prelude.{Bool, true, false, not, ◌&&◌, ◌||◌}
use Rattle.std.specs.List.{list_all}
use Rattle.vale_syntax.specs.declared.built_in.BuiltIn.{BuiltIn}
use Rattle.vale_syntax.specs.declared.built_in.BuiltIn.TheVariants as b
use Rattle.vale_syntax.specs.declared.tree.UnaryOp.{UnaryOp}
use Rattle.vale_syntax.specs.declared.tree.UnaryOp.TheVariants as unary
use Rattle.vale_rules_spec.specs.Declarations.{param_type}
use Rattle.vale_syntax.specs.Tree.{Param, head}
use Rattle.vale_rules_spec.specs.Types.{Ty, is_copy, is_void, type_of, result_of}
use Rattle.vale_rules_spec.specs.Typed.{Callee, built_in, constructor, function, Expr, expr, Node, set, chain, unary, steps, number, quote, truth, name, call, paren, array, iso, form, Exprs, no_exprs, more_exprs, Link, link, Links, no_links, more_links, Form, branch, pure, parallel_range, parallel_each, ElseIf, else_if, Elses, no_else, otherwise, more_elses, Block, block, Stmt, declare, destructure, return_nothing, return_value, while, foreach, form_stmt, express, Stmts, no_stmts, last, more_stmts, Function, function_body, Item, struct_item, interface_item, impl_item, function_item, Typed, typed}

abbrev pub type_is_served : Ty → Bool
type_is_served x = is_void x || is_copy x

abbrev pub unary_is_served : UnaryOp → Bool
unary_is_served unary.Minus = true
unary_is_served unary.Not = true
unary_is_served unary.Borrow = false
unary_is_served unary.Merge = false

abbrev pub built_in_is_served : BuiltIn → Bool
built_in_is_served b.Drop = false
built_in_is_served b.Push = false
built_in_is_served b.Pop = false
built_in_is_served _ = true

abbrev pub callee_is_served : Callee → Bool
callee_is_served (built_in f) = built_in_is_served f
callee_is_served constructor = false
callee_is_served (function is_pure) = not is_pure

-- exactly a local
abbrev pub is_local : Expr → Bool
is_local (expr x (name n is_outer moved)) = true
is_local _ = false

abbrev mutual
  pub expr_is_served : Expr → Bool
  expr_is_served (expr x node) = type_is_served x.value && node_is_served node

  pub node_is_served : Node → Bool
  node_is_served (set at p e) = is_local p && expr_is_served e
  node_is_served (chain e ls) = expr_is_served e && links_are_served ls
  node_is_served (unary at op e) = unary_is_served op && expr_is_served e
  node_is_served (steps e ss) = false
  node_is_served (number at n) = true
  node_is_served (quote at text) = true
  node_is_served (truth at b) = true
  node_is_served (name n is_outer moved) = not moved
  node_is_served (call n f es) = callee_is_served f && exprs_are_served es
  node_is_served (paren at e) = expr_is_served e
  node_is_served (array at x es) = false
  node_is_served (iso at b) = false
  node_is_served (form f) = form_is_served f

  pub exprs_are_served : Exprs → Bool
  exprs_are_served no_exprs = true
  exprs_are_served (more_exprs e es) = expr_is_served e && exprs_are_served es

  pub links_are_served : Links → Bool
  links_are_served no_links = true
  links_are_served (more_links l ls) = link_is_served l && links_are_served ls

  pub link_is_served : Link → Bool
  link_is_served (link s at op e) = expr_is_served e

  pub form_is_served : Form → Bool
  form_is_served (branch at c b es) = expr_is_served c && block_is_served b && elses_are_served es
  form_is_served (pure at b) = false
  form_is_served (parallel_range at n a e b) = false
  form_is_served (parallel_each at n e b) = false

  pub elses_are_served : Elses → Bool
  elses_are_served no_else = true
  elses_are_served (otherwise b) = block_is_served b
  elses_are_served (more_elses e es) = else_if_is_served e && elses_are_served es

  pub else_if_is_served : ElseIf → Bool
  else_if_is_served (else_if at c b) = expr_is_served c && block_is_served b

  pub block_is_served : Block → Bool
  block_is_served (block at end x ss) = stmts_are_served ss

  pub stmts_are_served : Stmts → Bool
  stmts_are_served no_stmts = true
  stmts_are_served (last e) = expr_is_served e
  stmts_are_served (more_stmts s ss) = stmt_is_served s && stmts_are_served ss

  pub stmt_is_served : Stmt → Bool
  stmt_is_served (declare n x e) = expr_is_served e
  stmt_is_served (destructure at ns xs e) = false
  stmt_is_served (return_nothing at) = true
  stmt_is_served (return_value at e) = expr_is_served e
  stmt_is_served (while at c b) = expr_is_served c && block_is_served b
  stmt_is_served (foreach at n a e b) = expr_is_served a && expr_is_served e && block_is_served b
  stmt_is_served (form_stmt f) = form_is_served f
  stmt_is_served (express e) = expr_is_served e

-- a value of the parameter's type is copied
abbrev pub param_is_served : Param → Bool
param_is_served p = is_copy (type_of (param_type p))

abbrev pub function_is_served : Function → Bool
function_is_served (function_body (head is_pure n ps x) b) =
    not is_pure && list_all param_is_served ps && type_is_served (result_of x) && block_is_served b

abbrev pub item_is_served : Item → Bool
item_is_served (function_item f) = function_is_served f
item_is_served (struct_item n fs) = false
item_is_served (interface_item n hs) = false
item_is_served (impl_item at i s fs) = false

abbrev pub is_served : Typed → Bool
is_served (typed names items) = list_all item_is_served items
