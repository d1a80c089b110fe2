-- The texts of a program's code: the names of its functions and its quotes.
use Rattle.std.specs.Prelude.{ℕ, Bool, ◌&&◌, nat_le, List, [], ◌∷◌, ◌++◌, length}
use Rattle.std.specs.List.{list_all}
use Rattle.vale_base.specs.Limits.{text_limit}
use Rattle.vale_syntax.specs.Bytes.{is_byte}
use Rattle.vale_rules_spec.specs.Typed.{Expr, expr, Node, set, chain, unary, steps, number, quote, truth, name, call, paren, array, iso, form, Exprs, no_exprs, more_exprs, link, Links, no_links, more_links, Form, branch, pure, parallel_range, parallel_each, Elses, no_else, otherwise, more_elses, else_if, Block, block, Stmt, declare, destructure, return_nothing, return_value, while, foreach, form_stmt, express, Stmts, no_stmts, last, more_stmts, Function, function_body}

-- a text that a `str` may have
abbrev pub is_lawful_text : List ℕ → Bool
is_lawful_text text = nat_le (length text) text_limit && list_all is_byte text

abbrev mutual
  pub expr_quotes : Expr → List (List ℕ)
  expr_quotes (expr x node) = node_quotes node

  pub node_quotes : Node → List (List ℕ)
  node_quotes (quote at text) = text ∷ []
  node_quotes (set at p e) = expr_quotes e
  node_quotes (chain e ls) = expr_quotes e ++ links_quotes ls
  node_quotes (unary at op e) = expr_quotes e
  node_quotes (call n f es) = exprs_quotes es
  node_quotes (paren at e) = expr_quotes e
  node_quotes (form f) = form_quotes f
  node_quotes (steps e ss) = []
  node_quotes (number at n) = []
  node_quotes (truth at b) = []
  node_quotes (name n is_outer moved) = []
  node_quotes (array at x es) = []
  node_quotes (iso at b) = []

  pub exprs_quotes : Exprs → List (List ℕ)
  exprs_quotes no_exprs = []
  exprs_quotes (more_exprs e es) = expr_quotes e ++ exprs_quotes es

  pub links_quotes : Links → List (List ℕ)
  links_quotes no_links = []
  links_quotes (more_links (link s at op e) ls) = expr_quotes e ++ links_quotes ls

  pub form_quotes : Form → List (List ℕ)
  form_quotes (branch at c b es) = expr_quotes c ++ block_quotes b ++ elses_quotes es
  form_quotes (pure at b) = []
  form_quotes (parallel_range at n a e b) = []
  form_quotes (parallel_each at n e b) = []

  pub elses_quotes : Elses → List (List ℕ)
  elses_quotes no_else = []
  elses_quotes (otherwise b) = block_quotes b
  elses_quotes (more_elses (else_if at c b) es) = expr_quotes c ++ block_quotes b ++ elses_quotes es

  pub block_quotes : Block → List (List ℕ)
  block_quotes (block at end x ss) = stmts_quotes ss

  pub stmts_quotes : Stmts → List (List ℕ)
  stmts_quotes no_stmts = []
  stmts_quotes (last e) = expr_quotes e
  stmts_quotes (more_stmts s ss) = stmt_quotes s ++ stmts_quotes ss

  pub stmt_quotes : Stmt → List (List ℕ)
  stmt_quotes (declare n x e) = expr_quotes e
  stmt_quotes (destructure at ns xs e) = []
  stmt_quotes (return_nothing at) = []
  stmt_quotes (return_value at e) = expr_quotes e
  stmt_quotes (while at c b) = expr_quotes c ++ block_quotes b
  stmt_quotes (foreach at n a e b) = expr_quotes a ++ expr_quotes e ++ block_quotes b
  stmt_quotes (form_stmt f) = form_quotes f
  stmt_quotes (express e) = expr_quotes e

abbrev pub function_quotes : Function → List (List ℕ)
function_quotes (function_body h b) = block_quotes b
