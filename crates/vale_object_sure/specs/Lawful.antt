-- The literals of a tree are lawful: numbers and texts that values may be, and no more values in a call or an array than an array may have.
use Rattle.std.specs.Prelude.{◌≡◌, ℕ, suc, true, nat_le, List, [], ◌∷◌}
use Rattle.vale_base.specs.Limits.{width_limit}
use Rattle.vale_text.specs.Operations.{is_int}
use Rattle.vale_syntax.specs.Tree.{Expr, set, chain, unary, steps, number, quote, truth, name, call, paren, array, iso, form, Exprs, no_exprs, more_exprs, Link, link, Links, no_links, more_links, Step, field, method, index, Steps, no_steps, more_steps, Form, branch, pure, parallel_range, parallel_each, ElseIf, else_if, Elses, no_else, otherwise, more_elses, Block, block, Stmt, declare, destructure, return_nothing, return_value, while, foreach, form_stmt, express, Stmts, no_stmts, last, more_stmts, Function, function, Item, struct_item, interface_item, impl_item, function_item}
use Rattle.vale_lowering.specs.Texts.{is_lawful_text}

abbrev pub count : Exprs → ℕ
count no_exprs = 0
count (more_exprs e es) = suc (count es)

abbrev mutual
  pub expr_is_lawful : Expr → Type 0
  expr_is_lawful (set at p e) = expr_is_lawful p × expr_is_lawful e
  expr_is_lawful (chain e ls) = expr_is_lawful e × links_are_lawful ls
  expr_is_lawful (unary at op e) = expr_is_lawful e
  expr_is_lawful (steps e ss) = expr_is_lawful e × steps_are_lawful ss
  expr_is_lawful (number at n) = is_int n ≡ true
  expr_is_lawful (quote at text) = is_lawful_text text ≡ true
  expr_is_lawful (truth at b) = Unit {0}
  expr_is_lawful (name n) = Unit {0}
  expr_is_lawful (call n es) = (nat_le (count es) width_limit ≡ true) × exprs_are_lawful es
  expr_is_lawful (paren at e) = expr_is_lawful e
  expr_is_lawful (array at x es) = (nat_le (count es) width_limit ≡ true) × exprs_are_lawful es
  expr_is_lawful (iso at b) = block_is_lawful b
  expr_is_lawful (form f) = form_is_lawful f

  pub exprs_are_lawful : Exprs → Type 0
  exprs_are_lawful no_exprs = Unit {0}
  exprs_are_lawful (more_exprs e es) = expr_is_lawful e × exprs_are_lawful es

  pub link_is_lawful : Link → Type 0
  link_is_lawful (link at op e) = expr_is_lawful e

  pub links_are_lawful : Links → Type 0
  links_are_lawful no_links = Unit {0}
  links_are_lawful (more_links l ls) = link_is_lawful l × links_are_lawful ls

  pub step_is_lawful : Step → Type 0
  step_is_lawful (field at n) = Unit {0}
  step_is_lawful (method at n es) = exprs_are_lawful es
  step_is_lawful (index at e) = expr_is_lawful e

  pub steps_are_lawful : Steps → Type 0
  steps_are_lawful no_steps = Unit {0}
  steps_are_lawful (more_steps x xs) = step_is_lawful x × steps_are_lawful xs

  pub form_is_lawful : Form → Type 0
  form_is_lawful (branch at c b es) = expr_is_lawful c × block_is_lawful b × elses_are_lawful es
  form_is_lawful (pure at b) = block_is_lawful b
  form_is_lawful (parallel_range at n a e b) = expr_is_lawful a × expr_is_lawful e × block_is_lawful b
  form_is_lawful (parallel_each at n e b) = expr_is_lawful e × block_is_lawful b

  pub else_if_is_lawful : ElseIf → Type 0
  else_if_is_lawful (else_if at c b) = expr_is_lawful c × block_is_lawful b

  pub elses_are_lawful : Elses → Type 0
  elses_are_lawful no_else = Unit {0}
  elses_are_lawful (otherwise b) = block_is_lawful b
  elses_are_lawful (more_elses e es) = else_if_is_lawful e × elses_are_lawful es

  pub block_is_lawful : Block → Type 0
  block_is_lawful (block at end ss) = stmts_are_lawful ss

  pub stmts_are_lawful : Stmts → Type 0
  stmts_are_lawful no_stmts = Unit {0}
  stmts_are_lawful (last e) = expr_is_lawful e
  stmts_are_lawful (more_stmts x xs) = stmt_is_lawful x × stmts_are_lawful xs

  pub stmt_is_lawful : Stmt → Type 0
  stmt_is_lawful (declare n e) = expr_is_lawful e
  stmt_is_lawful (destructure at ns e) = expr_is_lawful e
  stmt_is_lawful (return_nothing at) = Unit {0}
  stmt_is_lawful (return_value at e) = expr_is_lawful e
  stmt_is_lawful (while at c b) = expr_is_lawful c × block_is_lawful b
  stmt_is_lawful (foreach at n a e b) = expr_is_lawful a × expr_is_lawful e × block_is_lawful b
  stmt_is_lawful (form_stmt f) = form_is_lawful f
  stmt_is_lawful (express e) = expr_is_lawful e

abbrev pub function_is_lawful : Function → Type 0
function_is_lawful (function h b) = block_is_lawful b

-- methods aren't spoken of
abbrev pub item_is_lawful : Item → Type 0
item_is_lawful (struct_item n fs) = Unit {0}
item_is_lawful (interface_item n hs) = Unit {0}
item_is_lawful (impl_item at i s fs) = Unit {0}
item_is_lawful (function_item f) = function_is_lawful f

abbrev pub items_are_lawful : List Item → Type 0
items_are_lawful [] = Unit {0}
items_are_lawful (x ∷ xs) = item_is_lawful x × items_are_lawful xs
