-- Where the rules of isolates are broken, in post-order (docs/LANGUAGE.md, "Freezes and isolates").
use Rattle.std.specs.Prelude.{Bool, true, false, not, ◌||◌, ◌&&◌, List, [], ◌∷◌, ◌++◌}
use Rattle.std.specs.Option.{option_map_or}
use Rattle.vale_syntax.specs.declared.fault.Fault.{Fault}
use Rattle.vale_syntax.specs.declared.tree.UnaryOp.{UnaryOp}
use Rattle.vale_syntax.specs.declared.tree.UnaryOp.TheVariants as u
use Rattle.vale_rules_spec.specs.Judged.{Judged, Rules, own, unless}
use Rattle.vale_rules_spec.specs.Types.{Ty, is_void, is_frozen, Seen}
use Rattle.vale_rules_spec.specs.TypeRules.{is_iso}
use Rattle.vale_rules_spec.specs.Typed.{Expr, expr, Node, set, chain, unary, steps, number, quote, truth, name, call, paren, array, iso, form, Exprs, no_exprs, more_exprs, Link, link, Links, no_links, more_links, Step, field, method, index, Steps, no_steps, more_steps, Form, branch, pure, parallel_range, parallel_each, ElseIf, else_if, Elses, no_else, otherwise, more_elses, Block, block, Stmt, declare, destructure, return_nothing, return_value, while, foreach, form_stmt, express, Stmts, no_stmts, last, more_stmts, Function, function_body, Item, struct_item, interface_item, impl_item, function_item, Typed, typed, seen, step_seen, block_type}

-- ---- rules

-- an isolate's place that isn't seen as `&imm`: a local of this depth, or an element that is read through anything else
abbrev pub is_open : Seen → Bool
is_open s = option_map_or is_iso s.place false && not (is_frozen s.view)

-- a step, by what is known of its base
abbrev pub step_rules : Seen → Rules
step_rules base = (50, not (is_open base)) ∷ []

-- `&p`
abbrev pub unary_rules : UnaryOp → Seen → Rules
unary_rules u.Borrow s = (50, not (is_open s)) ∷ []
unary_rules _ s = []

-- a parallel loop, by whether it gives nothing and the type of its body: it gives nothing for a body whose values it can't give
abbrev pub parallel_rules : Bool → Ty → Rules
parallel_rules gives_nothing t = (51, is_void t || not gives_nothing) ∷ []

-- ---- parts

abbrev mutual
  pub expr_faults : Expr → List Fault
  expr_faults (expr s node) = node_faults (is_void s.value) node

  -- with whether it gives nothing
  pub node_faults : Bool → Node → List Fault
  node_faults gives_nothing (set at p e) = expr_faults p ++ expr_faults e
  node_faults gives_nothing (chain e ls) = expr_faults e ++ links_faults ls
  node_faults gives_nothing (unary at op e) = expr_faults e ++ own at (unary_rules op (seen e))
  node_faults gives_nothing (steps e ss) = expr_faults e ++ steps_faults (seen e) ss
  node_faults gives_nothing (number at n) = []
  node_faults gives_nothing (quote at text) = []
  node_faults gives_nothing (truth at b) = []
  node_faults gives_nothing (name n is_outer is_moved) = []
  node_faults gives_nothing (call n f es) = exprs_faults es
  node_faults gives_nothing (paren at e) = expr_faults e
  node_faults gives_nothing (array at x es) = exprs_faults es
  node_faults gives_nothing (iso at b) = block_faults b
  node_faults gives_nothing (form f) = form_faults gives_nothing f

  pub exprs_faults : Exprs → List Fault
  exprs_faults no_exprs = []
  exprs_faults (more_exprs e es) = expr_faults e ++ exprs_faults es

  pub link_faults : Link → List Fault
  link_faults (link s at op e) = expr_faults e

  pub links_faults : Links → List Fault
  links_faults no_links = []
  links_faults (more_links l ls) = link_faults l ++ links_faults ls

  -- a step from a base of which this is known
  pub step_faults : Seen → Step → List Fault
  step_faults base (field s v may_be_set at n) = own at (step_rules base)
  step_faults base (method s v at n es) = exprs_faults es ++ own at (step_rules base)
  step_faults base (index s v at e) = expr_faults e ++ own at (step_rules base)

  pub steps_faults : Seen → Steps → List Fault
  steps_faults base no_steps = []
  steps_faults base (more_steps s ss) = step_faults base s ++ steps_faults (step_seen s) ss

  -- with whether it gives nothing
  pub form_faults : Bool → Form → List Fault
  form_faults gives_nothing (branch at c b es) = expr_faults c ++ (block_faults b ++ elses_faults es)
  form_faults gives_nothing (pure at b) = block_faults b
  form_faults gives_nothing (parallel_range at n a e b) = expr_faults a ++ (expr_faults e ++ (block_faults b ++ own at (parallel_rules gives_nothing (block_type b))))
  form_faults gives_nothing (parallel_each at n e b) = expr_faults e ++ (block_faults b ++ own at (parallel_rules gives_nothing (block_type b)))

  pub else_if_faults : ElseIf → List Fault
  else_if_faults (else_if at c b) = expr_faults c ++ block_faults b

  pub elses_faults : Elses → List Fault
  elses_faults no_else = []
  elses_faults (otherwise b) = block_faults b
  elses_faults (more_elses e es) = else_if_faults e ++ elses_faults es

  pub block_faults : Block → List Fault
  block_faults (block at end t ss) = stmts_faults ss

  pub stmts_faults : Stmts → List Fault
  stmts_faults no_stmts = []
  stmts_faults (last e) = expr_faults e
  stmts_faults (more_stmts s ss) = stmt_faults s ++ stmts_faults ss

  -- a form that is a statement gives nothing
  pub stmt_faults : Stmt → List Fault
  stmt_faults (declare n t e) = expr_faults e
  stmt_faults (destructure at ns ts e) = expr_faults e
  stmt_faults (return_nothing at) = []
  stmt_faults (return_value at e) = expr_faults e
  stmt_faults (while at c b) = expr_faults c ++ block_faults b
  stmt_faults (foreach at n a e b) = expr_faults a ++ (expr_faults e ++ block_faults b)
  stmt_faults (form_stmt f) = form_faults true f
  stmt_faults (express e) = expr_faults e

-- ---- items

abbrev pub function_faults : Function → List Fault
function_faults (function_body h b) = block_faults b

abbrev pub functions_faults : List Function → List Fault
functions_faults [] = []
functions_faults (f ∷ fs) = function_faults f ++ functions_faults fs

abbrev pub item_faults : Item → List Fault
item_faults (struct_item n fs) = []
item_faults (interface_item n hs) = []
item_faults (impl_item at i s fs) = functions_faults fs
item_faults (function_item f) = function_faults f

abbrev pub items_faults : List Item → List Fault
items_faults [] = []
items_faults (x ∷ xs) = item_faults x ++ items_faults xs

-- the faults of a program; where it has none it keeps the rules of isolates
abbrev pub isolated : Typed → Judged (Unit {0})
isolated (typed names items) = unless (items_faults items) tt
