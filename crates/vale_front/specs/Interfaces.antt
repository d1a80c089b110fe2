-- Whether a program has interfaces, implementations or calls of methods. The phases don't judge these yet.
use Rattle.std.specs.Prelude.{Bool, true, false, ◌||◌, List, [], ◌∷◌}
use Rattle.vale_syntax.specs.Tree.{Expr, set, chain, unary, steps, number, quote, truth, name, call, paren, array, iso, form, Exprs, no_exprs, more_exprs, Link, link, Links, no_links, more_links, Step, field, method, index, Steps, no_steps, more_steps, Form, branch, pure, parallel_range, parallel_each, ElseIf, else_if, Elses, no_else, otherwise, more_elses, Block, block, Stmt, declare, destructure, return_nothing, return_value, while, foreach, form_stmt, express, Stmts, no_stmts, last, more_stmts, function, Item, struct_item, interface_item, impl_item, function_item, Tree, tree}

abbrev mutual
  pub in_expr : Expr → Bool
  in_expr (set at p e) = in_expr p || in_expr e
  in_expr (chain e ls) = in_expr e || in_links ls
  in_expr (unary at op e) = in_expr e
  in_expr (steps e ss) = in_expr e || in_steps ss
  in_expr (number at n) = false
  in_expr (quote at text) = false
  in_expr (truth at b) = false
  in_expr (name n) = false
  in_expr (call n es) = in_exprs es
  in_expr (paren at e) = in_expr e
  in_expr (array at x es) = in_exprs es
  in_expr (iso at b) = in_block b
  in_expr (form f) = in_form f

  pub in_exprs : Exprs → Bool
  in_exprs no_exprs = false
  in_exprs (more_exprs e es) = in_expr e || in_exprs es

  pub in_link : Link → Bool
  in_link (link at op e) = in_expr e

  pub in_links : Links → Bool
  in_links no_links = false
  in_links (more_links l ls) = in_link l || in_links ls

  pub in_step : Step → Bool
  in_step (field at n) = false
  in_step (method at n es) = true
  in_step (index at e) = in_expr e

  pub in_steps : Steps → Bool
  in_steps no_steps = false
  in_steps (more_steps s ss) = in_step s || in_steps ss

  pub in_form : Form → Bool
  in_form (branch at c b es) = in_expr c || (in_block b || in_elses es)
  in_form (pure at b) = in_block b
  in_form (parallel_range at n a e b) = in_expr a || (in_expr e || in_block b)
  in_form (parallel_each at n e b) = in_expr e || in_block b

  pub in_else_if : ElseIf → Bool
  in_else_if (else_if at c b) = in_expr c || in_block b

  pub in_elses : Elses → Bool
  in_elses no_else = false
  in_elses (otherwise b) = in_block b
  in_elses (more_elses e es) = in_else_if e || in_elses es

  pub in_block : Block → Bool
  in_block (block at end ss) = in_stmts ss

  pub in_stmts : Stmts → Bool
  in_stmts no_stmts = false
  in_stmts (last e) = in_expr e
  in_stmts (more_stmts s ss) = in_stmt s || in_stmts ss

  pub in_stmt : Stmt → Bool
  in_stmt (declare n e) = in_expr e
  in_stmt (destructure at ns e) = in_expr e
  in_stmt (return_nothing at) = false
  in_stmt (return_value at e) = in_expr e
  in_stmt (while at c b) = in_expr c || in_block b
  in_stmt (foreach at n a e b) = in_expr a || (in_expr e || in_block b)
  in_stmt (form_stmt f) = in_form f
  in_stmt (express e) = in_expr e

-- ---- items

abbrev pub in_item : Item → Bool
in_item (struct_item n fs) = false
in_item (interface_item n hs) = true
in_item (impl_item at i s fs) = true
in_item (function_item (function h b)) = in_block b

abbrev pub in_items : List Item → Bool
in_items [] = false
in_items (x ∷ xs) = in_item x || in_items xs

abbrev pub has_interfaces : Tree → Bool
has_interfaces (tree names items) = in_items items
