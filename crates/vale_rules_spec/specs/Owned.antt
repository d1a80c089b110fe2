-- Which locals are whole before and after each part of a program, and where the rules of ownership are broken (docs/LANGUAGE.md,
-- "Ownership"). Parts stand in the order in which they run. The faults are in post-order of the tree, which differs at a `set` alone:
-- its value runs before its place. What follows a faulty node is judged as if that node kept its rules.
use Rattle.std.specs.Prelude.{ℕ, Bool, true, false, not, ◌&&◌, ◌||◌, ◌==◌, List, [], ◌∷◌, ◌++◌, if◌then◌else◌}
use Rattle.vale_base.specs.declared.spot.Spot.{Spot}
use Rattle.vale_syntax.specs.declared.fault.Fault.{Fault}
use Rattle.vale_syntax.specs.declared.tree.BinaryOp.{BinaryOp}
use Rattle.vale_syntax.specs.declared.tree.BinaryOp.TheVariants.{Or, And}
use Rattle.vale_syntax.specs.declared.tree.NameAt.{NameAt}
use Rattle.vale_rules_spec.specs.Declarations.{head_name, head_params, param_name, is_drop}
use Rattle.vale_rules_spec.specs.Judged.{Judged, Rules, own, unless}
use Rattle.vale_syntax.specs.Tree.{Head, Param}
use Rattle.vale_rules_spec.specs.Typed.{Expr, expr, Node, set, chain, unary, steps, number, quote, truth, name, call, paren, array, iso, form, Exprs, no_exprs, more_exprs, link, Links, no_links, more_links, Step, field, method, index, Steps, no_steps, more_steps, Form, branch, pure, parallel_range, parallel_each, else_if, Elses, no_else, otherwise, more_elses, Block, block, Stmt, declare, destructure, return_nothing, return_value, while, foreach, form_stmt, express, Stmts, no_stmts, last, more_stmts, Function, function_body, Item, struct_item, interface_item, impl_item, function_item, Typed, typed}
use Rattle.vale_rules_spec.specs.Returns.{block_returns}
use Rattle.vale_rules_spec.specs.Whole.{Locals, declared, all_declared, params_declared, is_whole, moved, outer, are_alike}

-- the faults of a part, and the locals after it
pub record Flow : Type 0 where
  pub faults : List Fault
  pub after : Locals

-- a part that neither names a local nor has a rule
abbrev pub still : Locals → Flow
still ls = record { faults = []; after = ls }

-- one part, and then another
infixl 2 ◌then◌
abbrev pub ◌then◌ : Flow → (Locals → Flow) → Flow
f then go = record { faults = f.faults ++ (go f.after).faults; after = (go f.after).after }

-- the same, where the other stands before the one in the tree
abbrev pub but_first : Flow → (Locals → Flow) → Flow
but_first f go = record { faults = (go f.after).faults ++ f.faults; after = (go f.after).after }

-- a node after its parts
abbrev pub with_rules : Spot → Rules → Flow → Flow
with_rules at rules f = record { faults = f.faults ++ own at rules; after = f.after }

-- the locals after it are these
abbrev pub ends_as : Locals → Flow → Flow
ends_as ls f = record { faults = f.faults; after = ls }

-- ---- the branches of an `if`

-- the locals after each block that doesn't always return
abbrev pub Branches : Type 0
Branches = List Locals

abbrev pub add_branch : Bool → Locals → Branches → Branches
add_branch true ls branches = branches
add_branch false ls branches = ls ∷ branches

abbrev pub all_alike : Locals → Branches → Bool
all_alike ls [] = true
all_alike ls (w ∷ ws) = are_alike ls w && all_alike ls ws

abbrev pub agree : Branches → Bool
agree [] = true
agree (w ∷ ws) = all_alike w ws

-- the locals after an `if`; where no way leads after it, those before it
abbrev pub behind : Locals → Branches → Locals
behind before [] = before
behind before (w ∷ ws) = w

-- the faults of an `if`'s blocks and further conditions, and its branches
pub record Sides : Type 0 where
  pub faults : List Fault
  pub branches : Branches

-- ---- parts

-- an operand that may not run
abbrev pub link_rules : BinaryOp → Locals → Locals → Rules
link_rules Or before after = (31, are_alike before after) ∷ []
link_rules And before after = (31, are_alike before after) ∷ []
link_rules _ before after = []

-- the condition and the body of a loop
abbrev pub loop_rules : Locals → Flow → Bool → Flow → Rules
loop_rules before condition returns body = (32, are_alike before condition.after && (returns || are_alike condition.after body.after)) ∷ []

abbrev pub name_flow : NameAt → Bool → Locals → Flow
name_flow n is_moved ls = record {
  faults = own n.at ((30, is_whole n.name.0 ls) ∷ []);
  after = if is_moved then moved n.name.0 ls else ls;
}

-- an `if`, by its first condition and block and its other sides
abbrev pub branched : Spot → Locals → Flow → Bool → Flow → Sides → Flow
branched at before c returns b sides = record {
  faults = c.faults ++ (b.faults ++ (sides.faults ++ own at ((31, agree (add_branch returns b.after sides.branches)) ∷ [])));
  after = behind before (add_branch returns b.after sides.branches);
}

-- a loop, by its condition and its body; the locals after it are those before its body
abbrev pub looped : Spot → Locals → Flow → Bool → Flow → Flow
looped at before c returns b = record {
  faults = c.faults ++ (b.faults ++ own at (loop_rules before c returns b));
  after = c.after;
}

abbrev mutual
  pub expr_flow : Expr → Locals → Flow
  expr_flow (expr x node) ls = node_flow node ls

  pub node_flow : Node → Locals → Flow
  node_flow (set at p e) ls = but_first (expr_flow e ls) (expr_flow p)
  node_flow (chain e ls) us = expr_flow e us then links_flow ls
  node_flow (unary at op e) ls = expr_flow e ls
  node_flow (steps e ss) ls = expr_flow e ls then steps_flow ss
  node_flow (number at n) ls = still ls
  node_flow (quote at text) ls = still ls
  node_flow (truth at b) ls = still ls
  node_flow (name n is_outer is_moved) ls = name_flow n is_moved ls
  node_flow (call n f es) ls = exprs_flow es ls
  node_flow (paren at e) ls = expr_flow e ls
  node_flow (array at x es) ls = exprs_flow es ls
  node_flow (iso at b) ls = block_flow b ls
  node_flow (form f) ls = form_flow f ls

  pub exprs_flow : Exprs → Locals → Flow
  exprs_flow no_exprs ls = still ls
  exprs_flow (more_exprs e es) ls = expr_flow e ls then exprs_flow es

  pub links_flow : Links → Locals → Flow
  links_flow no_links ls = still ls
  links_flow (more_links (link x at op e) ls) us =
      with_rules at (link_rules op us (expr_flow e us).after) (expr_flow e us) then links_flow ls

  pub step_flow : Step → Locals → Flow
  step_flow (field x v may_be_set at n) ls = still ls
  step_flow (method x v at n es) ls = exprs_flow es ls
  step_flow (index x v at e) ls = expr_flow e ls

  pub steps_flow : Steps → Locals → Flow
  steps_flow no_steps ls = still ls
  steps_flow (more_steps s ss) ls = step_flow s ls then steps_flow ss

  pub form_flow : Form → Locals → Flow
  form_flow (branch at c b es) ls = branched at ls (expr_flow c ls) (block_returns b) (block_flow b (expr_flow c ls).after) (elses_flow es (expr_flow c ls).after)
  form_flow (pure at b) ls = block_flow b ls
  form_flow (parallel_range at n a e b) ls = expr_flow a ls then expr_flow e then (λ us. ends_as us (body_flow n b us))
  form_flow (parallel_each at n e b) ls = expr_flow e ls then (λ us. ends_as us (body_flow n b us))

  pub elses_flow : Elses → Locals → Sides
  elses_flow no_else ls = record { faults = []; branches = ls ∷ [] }
  elses_flow (otherwise b) ls = record { faults = (block_flow b ls).faults; branches = add_branch (block_returns b) (block_flow b ls).after [] }
  elses_flow (more_elses (else_if at c b) es) ls = record {
    faults = (expr_flow c ls).faults ++ ((block_flow b (expr_flow c ls).after).faults ++ (elses_flow es (expr_flow c ls).after).faults);
    branches = add_branch (block_returns b) (block_flow b (expr_flow c ls).after).after (elses_flow es (expr_flow c ls).after).branches;
  }

  -- A block's own locals end with it.
  pub block_flow : Block → Locals → Flow
  block_flow (block at end x ss) ls = ends_as (outer ls (stmts_flow ss ls).after) (stmts_flow ss ls)

  -- the body of a loop over this local
  pub body_flow : NameAt → Block → Locals → Flow
  body_flow n (block at end x ss) ls = ends_as (outer ls (stmts_flow ss (declared n ls)).after) (stmts_flow ss (declared n ls))

  pub stmts_flow : Stmts → Locals → Flow
  stmts_flow no_stmts ls = still ls
  stmts_flow (last e) ls = expr_flow e ls
  stmts_flow (more_stmts s ss) ls = stmt_flow s ls then stmts_flow ss

  pub stmt_flow : Stmt → Locals → Flow
  stmt_flow (declare n x e) ls = ends_as (declared n (expr_flow e ls).after) (expr_flow e ls)
  stmt_flow (destructure at ns xs e) ls = ends_as (all_declared ns (expr_flow e ls).after) (expr_flow e ls)
  stmt_flow (return_nothing at) ls = still ls
  stmt_flow (return_value at e) ls = expr_flow e ls
  stmt_flow (while at c b) ls = looped at ls (expr_flow c ls) (block_returns b) (block_flow b (expr_flow c ls).after)
  stmt_flow (foreach at n a e b) ls = expr_flow a ls then expr_flow e then (λ us. looped at us (still us) (block_returns b) (body_flow n b us))
  stmt_flow (form_stmt f) ls = form_flow f ls
  stmt_flow (express e) ls = expr_flow e ls

-- ---- `self` of a destructor

module _ (self : ℕ) where
  -- exactly the local
  abbrev pub is_self : Expr → Bool
  is_self (expr x (name n is_outer is_moved)) = n.name.0 == self
  is_self _ = false

  -- whether the local is moved by anything but a destructuring
  abbrev mutual
    pub expr_moves : Expr → Bool
    expr_moves (expr x node) = node_moves node

    pub node_moves : Node → Bool
    node_moves (set at p e) = expr_moves p || expr_moves e
    node_moves (chain e ls) = expr_moves e || links_move ls
    node_moves (unary at op e) = expr_moves e
    node_moves (steps e ss) = expr_moves e || steps_move ss
    node_moves (number at n) = false
    node_moves (quote at text) = false
    node_moves (truth at b) = false
    node_moves (name n is_outer is_moved) = is_moved && (n.name.0 == self)
    node_moves (call n f es) = exprs_move es
    node_moves (paren at e) = expr_moves e
    node_moves (array at x es) = exprs_move es
    node_moves (iso at b) = block_moves b
    node_moves (form f) = form_moves f

    pub exprs_move : Exprs → Bool
    exprs_move no_exprs = false
    exprs_move (more_exprs e es) = expr_moves e || exprs_move es

    pub links_move : Links → Bool
    links_move no_links = false
    links_move (more_links (link x at op e) ls) = expr_moves e || links_move ls

    pub step_moves : Step → Bool
    step_moves (field x v may_be_set at n) = false
    step_moves (method x v at n es) = exprs_move es
    step_moves (index x v at e) = expr_moves e

    pub steps_move : Steps → Bool
    steps_move no_steps = false
    steps_move (more_steps s ss) = step_moves s || steps_move ss

    pub form_moves : Form → Bool
    form_moves (branch at c b es) = expr_moves c || block_moves b || elses_move es
    form_moves (pure at b) = block_moves b
    form_moves (parallel_range at n a e b) = expr_moves a || expr_moves e || block_moves b
    form_moves (parallel_each at n e b) = expr_moves e || block_moves b

    pub elses_move : Elses → Bool
    elses_move no_else = false
    elses_move (otherwise b) = block_moves b
    elses_move (more_elses (else_if at c b) es) = expr_moves c || block_moves b || elses_move es

    pub block_moves : Block → Bool
    block_moves (block at end x ss) = stmts_move ss

    pub stmts_move : Stmts → Bool
    stmts_move no_stmts = false
    stmts_move (last e) = expr_moves e
    stmts_move (more_stmts s ss) = stmt_moves s || stmts_move ss

    pub stmt_moves : Stmt → Bool
    stmt_moves (declare n x e) = expr_moves e
    stmt_moves (destructure at ns xs e) = if is_self e then false else expr_moves e
    stmt_moves (return_nothing at) = false
    stmt_moves (return_value at e) = expr_moves e
    stmt_moves (while at c b) = expr_moves c || block_moves b
    stmt_moves (foreach at n a e b) = expr_moves a || expr_moves e || block_moves b
    stmt_moves (form_stmt f) = form_moves f
    stmt_moves (express e) = expr_moves e

-- ---- functions and the whole

-- a function's body, from its parameters
abbrev pub function_flow : Head → Block → Flow
function_flow h (block at end x ss) = stmts_flow ss (params_declared (head_params h) [])

-- each parameter, of which a destructor has one, is taken apart
abbrev pub are_taken_apart : List Param → Block → Locals → Bool
are_taken_apart [] b ls = true
are_taken_apart (p ∷ ps) b ls =
    not (block_moves (param_name p).name.0 b) && not (is_whole (param_name p).name.0 ls) && are_taken_apart ps b ls

abbrev pub drop_rules : List (List ℕ) → Head → Block → Rules
drop_rules names h b =
    if is_drop names h then (33, are_taken_apart (head_params h) b (function_flow h b).after) ∷ [] else []

abbrev pub function_faults : List (List ℕ) → Function → List Fault
function_faults names (function_body h b) = (function_flow h b).faults ++ own (head_name h).at (drop_rules names h b)

-- a method is never a destructor
abbrev pub method_faults : List Function → List Fault
method_faults [] = []
method_faults (function_body h b ∷ fs) = (function_flow h b).faults ++ method_faults fs

abbrev pub item_faults : List (List ℕ) → Item → List Fault
item_faults names (struct_item n fs) = []
item_faults names (interface_item n hs) = []
item_faults names (impl_item at i s fs) = method_faults fs
item_faults names (function_item f) = function_faults names f

abbrev pub items_faults : List (List ℕ) → List Item → List Fault
items_faults names [] = []
items_faults names (x ∷ xs) = item_faults names x ++ items_faults names xs

-- the typed tree, where no node breaks a rule of ownership; else the faults
abbrev pub owned : Typed → Judged Typed
owned (typed names items) = unless (items_faults names items) (typed names items)
