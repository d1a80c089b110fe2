-- The kinds of a program's objects, in order: its structs and interfaces by their items, then the array types by where they first
-- stand, in the items' declarations and then in the bodies.
use Rattle.std.specs.Prelude.{List, [], ◌∷◌, ◌++◌, flat_map, if◌then◌else◌}
use Rattle.std.specs.List.{list_any}
use Rattle.vale_syntax.specs.Tree.{Head, head}
use Rattle.vale_rules_spec.specs.Declarations.{param_type, field_type}
use Rattle.vale_rules_spec.specs.Types.{Ty, Seen, type_of, result_of, same}
use Rattle.vale_rules_spec.specs.Typed.{Expr, expr, Node, set, chain, unary, steps, number, quote, truth, name, call, paren, array, iso, form, Exprs, no_exprs, more_exprs, Link, link, Links, no_links, more_links, Step, field, method, index, Steps, no_steps, more_steps, Form, branch, pure, parallel_range, parallel_each, ElseIf, else_if, Elses, no_else, otherwise, more_elses, Block, block, Stmt, declare, destructure, return_nothing, return_value, while, foreach, form_stmt, express, Stmts, no_stmts, last, more_stmts, Function, function_body, Item, struct_item, interface_item, impl_item, function_item}
use Rattle.vale_rules_spec.specs.Types as y

abbrev pub head_of : Function → Head
head_of (function_body h b) = h

abbrev pub body_of : Function → Block
body_of (function_body h b) = b

-- the array types in a type, the innermost first
abbrev pub arrays_in : Ty → List Ty
arrays_in (y.array x) = arrays_in x ++ y.array x ∷ []
arrays_in (y.ref x) = arrays_in x
arrays_in (y.imm x) = arrays_in x
arrays_in (y.iso x) = arrays_in x
arrays_in _ = []

-- those that an array or a loop makes: the types that no declaration has to name
abbrev mutual
  pub expr_arrays : Expr → List Ty
  expr_arrays (expr s node) = node_arrays s.value node

  -- of a node whose value has this type
  pub node_arrays : Ty → Node → List Ty
  node_arrays x (set at p e) = expr_arrays p ++ expr_arrays e
  node_arrays x (chain e ls) = expr_arrays e ++ links_arrays ls
  node_arrays x (unary at op e) = expr_arrays e
  node_arrays x (steps e ss) = expr_arrays e ++ steps_arrays ss
  node_arrays x (number at n) = []
  node_arrays x (quote at text) = []
  node_arrays x (truth at b) = []
  node_arrays x (name n is_outer moved) = []
  node_arrays x (call n f es) = exprs_arrays es
  node_arrays x (paren at e) = expr_arrays e
  node_arrays x (array at y es) = exprs_arrays es ++ arrays_in x
  node_arrays x (iso at b) = block_arrays b
  node_arrays x (form f) = form_arrays f ++ arrays_in x

  pub exprs_arrays : Exprs → List Ty
  exprs_arrays no_exprs = []
  exprs_arrays (more_exprs e es) = expr_arrays e ++ exprs_arrays es

  pub link_arrays : Link → List Ty
  link_arrays (link s at op e) = expr_arrays e

  pub links_arrays : Links → List Ty
  links_arrays no_links = []
  links_arrays (more_links l ls) = link_arrays l ++ links_arrays ls

  pub step_arrays : Step → List Ty
  step_arrays (field s v may_be_set at n) = []
  step_arrays (method s v at n es) = exprs_arrays es
  step_arrays (index s v at e) = expr_arrays e

  pub steps_arrays : Steps → List Ty
  steps_arrays no_steps = []
  steps_arrays (more_steps s ss) = step_arrays s ++ steps_arrays ss

  pub form_arrays : Form → List Ty
  form_arrays (branch at c b es) = expr_arrays c ++ block_arrays b ++ elses_arrays es
  form_arrays (pure at b) = block_arrays b
  form_arrays (parallel_range at n a e b) = expr_arrays a ++ expr_arrays e ++ block_arrays b
  form_arrays (parallel_each at n e b) = expr_arrays e ++ block_arrays b

  pub else_if_arrays : ElseIf → List Ty
  else_if_arrays (else_if at c b) = expr_arrays c ++ block_arrays b

  pub elses_arrays : Elses → List Ty
  elses_arrays no_else = []
  elses_arrays (otherwise b) = block_arrays b
  elses_arrays (more_elses e es) = else_if_arrays e ++ elses_arrays es

  pub block_arrays : Block → List Ty
  block_arrays (block at end x ss) = stmts_arrays ss

  pub stmts_arrays : Stmts → List Ty
  stmts_arrays no_stmts = []
  stmts_arrays (last e) = expr_arrays e
  stmts_arrays (more_stmts s ss) = stmt_arrays s ++ stmts_arrays ss

  pub stmt_arrays : Stmt → List Ty
  stmt_arrays (declare n x e) = expr_arrays e
  stmt_arrays (destructure at ns xs e) = expr_arrays e
  stmt_arrays (return_nothing at) = []
  stmt_arrays (return_value at e) = expr_arrays e
  stmt_arrays (while at c b) = expr_arrays c ++ block_arrays b
  stmt_arrays (foreach at n a e b) = expr_arrays a ++ expr_arrays e ++ block_arrays b
  stmt_arrays (form_stmt f) = form_arrays f
  stmt_arrays (express e) = expr_arrays e

-- ---- items

abbrev pub head_arrays : Head → List Ty
head_arrays (head is_pure n ps x) = flat_map (λ p. arrays_in (type_of (param_type p))) ps ++ arrays_in (result_of x)

abbrev pub declared_arrays : Item → List Ty
declared_arrays (struct_item n fs) = flat_map (λ f. arrays_in (type_of (field_type f))) fs
declared_arrays (interface_item n hs) = flat_map head_arrays hs
declared_arrays (impl_item at i s fs) = flat_map (λ f. head_arrays (head_of f)) fs
declared_arrays (function_item f) = head_arrays (head_of f)

abbrev pub made_arrays : Item → List Ty
made_arrays (impl_item at i s fs) = flat_map (λ f. block_arrays (body_of f)) fs
made_arrays (function_item f) = block_arrays (body_of f)
made_arrays _ = []

abbrev pub named_kinds : Item → List Ty
named_kinds (struct_item n fs) = y.kind n.name.0 ∷ []
named_kinds (interface_item n hs) = y.kind n.name.0 ∷ []
named_kinds _ = []

-- each type once, where it stands first
abbrev pub once : List Ty → List Ty → List Ty
once before [] = []
once before (x ∷ xs) = if list_any (same x) before then once before xs else x ∷ once (x ∷ before) xs

abbrev pub kinds_of : List Item → List Ty
kinds_of items = once [] (flat_map named_kinds items ++ flat_map declared_arrays items ++ flat_map made_arrays items)
