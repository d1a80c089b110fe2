-- What is known of a typed tree beside that its types fit: which names are moved, and that what has to be a value is one.
use Rattle.std.specs.Prelude.{◌≡◌, Bool, true, false, ◌&&◌, nat_le, List, [], ◌∷◌, length}
use Rattle.vale_base.specs.Limits.{width_limit}
use Rattle.vale_syntax.specs.declared.built_in.BuiltIn.TheVariants as b
use Rattle.vale_syntax.specs.declared.tree.NameAt.{NameAt}
use Rattle.vale_syntax.specs.declared.tree.UnaryOp.TheVariants as unary_op
use Rattle.vale_text.specs.Operations.{is_int}
use Rattle.vale_rules_spec.specs.Types.{Ty, is_void, is_owned}
use Rattle.vale_rules_spec.specs.Typed.{Callee, built_in, Expr, expr, Node, set, chain, unary, steps, number, quote, truth, name, call, paren, array, iso, form, Exprs, no_exprs, more_exprs, link, Links, no_links, more_links, Step, field, method, index, Steps, no_steps, more_steps, Form, branch, pure, parallel_range, parallel_each, else_if, Elses, no_else, otherwise, more_elses, Block, block, Stmt, declare, destructure, return_nothing, return_value, while, foreach, form_stmt, express, Stmts, no_stmts, last, more_stmts, type, types}
use Rattle.vale_lowering.specs.Texts.{is_lawful_text}
use Rattle.vale_lowering_objects.specs.Scopes.{copy, gives_of}

abbrev pub are_values : List Ty → Type 0
are_values [] = Unit {0}
are_values (x ∷ xs) = (is_void x ≡ false) × are_values xs

-- names with their types, none of which is void
abbrev pub are_locals : List NameAt → List Ty → Type 0
are_locals [] [] = Unit {0}
are_locals (n ∷ ns) (x ∷ xs) = (is_void x ≡ false) × are_locals ns xs
are_locals _ _ = ⊥

-- a value that is taken from an array is one
abbrev pub takes_value : Callee → Ty → Type 0
takes_value (built_in b.Pop) x = is_void x ≡ false
takes_value _ x = Unit {0}

abbrev pub has_operator : Links → Type 0
has_operator no_links = ⊥
has_operator (more_links l ls) = Unit {0}

abbrev mutual
  -- with whether it is used as a value
  pub expr_marks : Bool → Expr → Type 0
  expr_marks used (expr s node) = node_marks used s.value node

  pub node_marks : Bool → Ty → Node → Type 0
  node_marks used x (number at n) = is_int n ≡ true
  node_marks used x (quote at text) = is_lawful_text text ≡ true
  node_marks used x (truth at b) = Unit {0}
  node_marks used x (name n is_outer moved) = moved ≡ (used && is_owned x)
  node_marks used x (paren at e) = expr_marks true e
  node_marks used x (chain e ls) = has_operator ls × expr_marks true e × links_mark ls
  node_marks used x (unary at unary_op.Minus e) = expr_marks true e
  node_marks used x (unary at unary_op.Not e) = expr_marks true e
  node_marks used x (unary at unary_op.Borrow e) = (gives_of x ≡ copy) × expr_marks false e
  node_marks used x (unary at unary_op.Merge e) = ⊥
  node_marks used x (set at p e) = place_marks p × (is_void (type e) ≡ false) × expr_marks true e
  node_marks used x (call n f es) = are_values (types es) × (nat_le (length (types es)) width_limit ≡ true) × takes_value f x × exprs_mark es
  node_marks used x (array at y es) = are_values (types es) × (nat_le (length (types es)) width_limit ≡ true) × exprs_mark es
  node_marks used x (form f) = form_marks f
  node_marks used x (steps e no_steps) = ⊥
  node_marks used x (steps e (more_steps y ys)) = (used ≡ true → gives_of x ≡ copy) × expr_marks false e × step_marks y × steps_mark ys
  node_marks used x (iso at b) = ⊥

  -- the place of a `set`
  pub place_marks : Expr → Type 0
  place_marks (expr s (name n is_outer moved)) = moved ≡ false
  place_marks (expr s (steps e no_steps)) = ⊥
  place_marks (expr s (steps e (more_steps y ys))) = expr_marks false e × step_marks y × steps_mark ys
  place_marks (expr s node) = ⊥

  pub exprs_mark : Exprs → Type 0
  exprs_mark no_exprs = Unit {0}
  exprs_mark (more_exprs e es) = expr_marks true e × exprs_mark es

  pub links_mark : Links → Type 0
  links_mark no_links = Unit {0}
  links_mark (more_links (link s at op e) ls) = expr_marks true e × links_mark ls

  pub step_marks : Step → Type 0
  step_marks (field s v may_be_set at n) = Unit {0}
  step_marks (method s v at n es) = ⊥
  step_marks (index s v at e) = expr_marks true e

  pub steps_mark : Steps → Type 0
  steps_mark no_steps = Unit {0}
  steps_mark (more_steps x xs) = step_marks x × steps_mark xs

  pub form_marks : Form → Type 0
  form_marks (branch at c b es) = expr_marks true c × block_marks b × elses_mark es
  form_marks (pure at b) = ⊥
  form_marks (parallel_range at n a e b) = ⊥
  form_marks (parallel_each at n e b) = ⊥

  pub elses_mark : Elses → Type 0
  elses_mark no_else = Unit {0}
  elses_mark (otherwise b) = block_marks b
  elses_mark (more_elses (else_if at c b) es) = expr_marks true c × block_marks b × elses_mark es

  pub block_marks : Block → Type 0
  block_marks (block at end x ss) = stmts_mark ss

  pub stmts_mark : Stmts → Type 0
  stmts_mark no_stmts = Unit {0}
  stmts_mark (last e) = expr_marks true e
  stmts_mark (more_stmts s ss) = stmt_marks s × stmts_mark ss

  pub stmt_marks : Stmt → Type 0
  stmt_marks (declare n x e) = (is_void (type e) ≡ false) × expr_marks true e
  stmt_marks (destructure at ns xs e) = are_locals ns xs × expr_marks true e
  stmt_marks (return_nothing at) = Unit {0}
  stmt_marks (return_value at e) = (is_void (type e) ≡ false) × expr_marks true e
  stmt_marks (while at c b) = expr_marks true c × block_marks b
  stmt_marks (foreach at n a e b) = expr_marks true a × expr_marks true e × block_marks b
  stmt_marks (form_stmt f) = form_marks f
  stmt_marks (express e) = expr_marks true e
