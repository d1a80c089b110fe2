-- What is known before each instruction of lowered code, part by part, in the order of the code.
use Rattle.std.specs.Prelude.{ℕ, ◌+◌, Bool, false, not, ◌&&◌, List, [], ◌∷◌, ◌++◌, length, Option, Some, None, if◌then◌else◌}
use Rattle.vale_syntax.specs.declared.tree.BinaryOp.{BinaryOp}
use Rattle.vale_syntax.specs.declared.tree.BinaryOp.TheVariants as op
use Rattle.vale_syntax.specs.declared.tree.UnaryOp.{UnaryOp}
use Rattle.vale_syntax.specs.declared.tree.UnaryOp.TheVariants as unary_op
use Rattle.vale_rules_spec.specs.Types.{Ty, View, is_owned, Seen}
use Rattle.vale_rules_spec.specs.Types as y
use Rattle.vale_rules_spec.specs.TypeRules.{is_owned_place, borrow_gives}
use Rattle.vale_rules_spec.specs.Typed.{Expr, expr, Node, set, chain, unary, steps, number, quote, truth, name, call, paren, array, iso, form, Exprs, no_exprs, more_exprs, link, Links, no_links, more_links, Step, index, Steps, no_steps, more_steps, Form, branch, pure, else_if, Elses, no_else, otherwise, more_elses, Block, block, Stmt, declare, destructure, return_nothing, return_value, while, foreach, form_stmt, express, Stmts, no_stmts, last, more_stmts, type, block_type, chain_seen, step_seen}
use Rattle.vale_model.specs.Expressions.{numbers_of}
use Rattle.vale_lowering_objects.specs.Changes.{step_changes}
use Rattle.vale_lowering_objects.specs.Lowered.{all_gives, locals_after, link_after, step_view, stays_of, expr_after, node_after, start_after, step_after, steps_after, place_after, targets_after, args_after, links_after, elses_after, block_after, stmts_after, stmt_after, gives_list}
use Rattle.vale_lowering_objects.specs.Scopes.{gives_of, Entry, find, Gone, is_gone, After, comes, never, met, Scope}
use Rattle.vale_object_facts.specs.Slots.{Slot, Slots, is_listed, Stand, scope_at, with_gone, deeper, holding, given, with_waiting, with_local}

abbrev pub Stands : Type 0
Stands = List Stand

-- ---- the shapes of code

abbrev pub gone_of : After → Gone
gone_of (comes g) = g
gone_of (never g) = g

-- of code that no run comes to: what is known where it begins, and behind it
abbrev pub dead_stands : ℕ → Stand → Stands → Stand → Stands
dead_stands r start [] end = []
dead_stands r start (m ∷ ms) end = start ∷ holding r y.bool start ∷ ((m ∷ ms) ++ (end ∷ []))

-- of what follows a part: what is known where it begins, what is gone after it, and what is known then
abbrev pub then_stands : ℕ → Stands → After → (Gone → Stand) → (Gone → Stands) → (Gone → After) → (Gone → Stand) → Stands
then_stands r ms (comes g) start rest after end = ms ++ rest g
then_stands r ms (never g) start rest after end = ms ++ dead_stands r (start g) (rest g) (end (gone_of (after g)))

abbrev pub comes_stands : Stands → After → (Gone → Stands) → Stands
comes_stands ms (comes g) rest = ms ++ rest g
comes_stands ms (never g) rest = ms

abbrev pub jump_stands : After → (Gone → Stand) → Stands
jump_stands (comes g) behind = behind g ∷ []
jump_stands (never g) behind = []

-- of a test and its two sides
abbrev pub sides_stands : Stand → Stands → After → (Gone → Stand) → Stands → Stands
sides_stands tested one first behind two = tested ∷ (one ++ (jump_stands first behind ++ two))

abbrev pub loop_stands : Stand → Stands → Stands → Stand → Stands
loop_stands s body test tested = s ∷ s ∷ (body ++ (test ++ (tested ∷ tested ∷ [])))

-- a turn for each number, by what is known where the loop begins, of its body, and what is gone after that
abbrev pub count_stands : ℕ → Stand → Stands → After → Stands
count_stands h s body after =
    s ∷ loop_stands s (s ∷ comes_stands body after (λ g. with_gone g s ∷ holding (h + 2) y.int (with_gone g s) ∷ [])) (s ∷ []) (holding (h + 2) y.bool s)

-- of a loop's turns, where a run comes after its test
abbrev pub turns_stands : ℕ → After → Stand → Stands → Ty → Stands → After → Stands
turns_stands h (comes g) s test t body after = loop_stands s body test (holding h t (with_gone g s))
turns_stands h (never g) s test t body after = then_stands (h + 1) test (never g) (λ g. s) (λ g. body) (λ g. after) (λ g. with_gone g s)

abbrev pub hand_stands : Ty → Stand → Stands
hand_stands x s = if y.is_void x then [] else s ∷ []

-- ---- locals

-- the local gets what stands in h, and h what it held
abbrev pub exchange_by : Entry → Ty → ℕ → Stand → Stands
exchange_by x ty h s =
    if x.owned
    then holding h ty s ∷ holding (h + 1) ty (holding h ty (with_gone (x.register ∷ s.gone) s)) ∷ holding (h + 1) ty s ∷ []
    else holding h ty s ∷ holding (h + 1) ty (holding h ty s) ∷ holding (h + 1) ty (holding h ty s) ∷ []

abbrev pub exchange_stands : Option Entry → Ty → ℕ → Stand → Stands
exchange_stands None ty h s = s ∷ []
exchange_stands (Some x) ty h s = exchange_by x ty h s

-- what it held is dropped
abbrev pub store_by : Entry → Ty → ℕ → Stand → Stands
store_by x ty h s = if x.owned then holding h ty s ∷ holding h ty (with_gone (x.register ∷ s.gone) s) ∷ [] else holding h ty s ∷ []

abbrev pub store_stands : Option Entry → Ty → ℕ → Stand → Stands
store_stands None ty h s = s ∷ []
store_stands (Some x) ty h s = store_by x ty h s

abbrev pub drop_stands : Ty → Stand → Stands
drop_stands x s = if is_owned x then s ∷ [] else []

-- a local in a register, where it is an owner and still there
abbrev pub drop_local : Ty → ℕ → Stand → Stands
drop_local x r s = if is_owned x then (if is_gone r s.gone then [] else s ∷ []) else []

abbrev pub drops_slot : Slot → Gone → Bool
drops_slot x g = is_listed x.role && is_owned x.ty && not (is_gone x.register g)

-- of all that are listed, by what is known with those that are left
abbrev pub scope_stands : (Slots → Stand) → Slots → Gone → Stands
scope_stands known [] g = []
scope_stands known (x ∷ xs) g = (if drops_slot x g then known (x ∷ xs) ∷ [] else []) ++ scope_stands known xs g

abbrev pub with_slots : Stand → Slots → Stand
with_slots s xs = record { depth = s.depth; slots = xs; gone = s.gone }

-- a function is left, with a value in h where there is one
abbrev pub leave_stands : ℕ → Ty → Stand → Stands
leave_stands h x s = scope_stands (λ xs. given h x (with_slots s xs)) s.slots s.gone ++ (given h x (with_slots s []) ∷ [])

-- locals in the registers from h on, each dropped after what runs in its scope
abbrev pub locals_stands : List ℕ → List Ty → ℕ → Stand → (ℕ → Stand → Stands) → (ℕ → Scope → Gone → After) → (Stand → Stand) → Stands
locals_stands (n ∷ ns) (x ∷ xs) h s rest after value =
    comes_stands (locals_stands ns xs (h + 1) (with_local n h x s) rest after value)
    (locals_after ns (all_gives xs) (h + 1) (scope_at (with_local n h x s)) (with_local n h x s).gone after)
    (λ g. drop_local x h (value (with_gone g (with_local n h x s))))
locals_stands _ _ h s rest after value = rest h s

-- ---- operators

-- between h and an operand
abbrev pub link_stands : BinaryOp → Ty → Ty → Ty → (ℕ → Stand → Stands) → (ℕ → Gone → After) → ℕ → Stand → Stands
link_stands op.Or x y z operand after h s = sides_stands (holding h x s) [] (comes s.gone) (λ g. holding h x (with_gone g s)) (operand h s)
link_stands op.And x y z operand after h s = holding h x s ∷ operand h s
link_stands o x y z operand after h s =
    then_stands (h + 2) (operand (h + 1) (holding h x s)) (after (h + 1) s.gone)
    (λ g. holding (h + 1) y (holding h x (with_gone g s))) (λ g. holding (h + 1) y (holding h x (with_gone g s)) ∷ []) (λ g. comes g) (λ g. holding h z (with_gone g s))

-- of a value in h
abbrev pub unary_stands : UnaryOp → Ty → ℕ → Stand → Stands
unary_stands unary_op.Minus x h s = holding h x s ∷ holding (h + 1) y.int (holding h x s) ∷ []
unary_stands _ x h s = holding h x s ∷ []

-- ---- steps

-- the type of what a register holds when a place is read: a reference, where the place has an owner or an isolate
abbrev pub lent : Seen → Ty
lent x = if is_owned_place x.place then borrow_gives x.view else x.value

-- the same after all steps from a register that holds a value of this type
abbrev pub lent_last : Ty → Steps → Ty
lent_last t no_steps = t
lent_last t (more_steps x xs) = lent_last (lent (step_seen x)) xs

-- ---- the tree

-- the values of a call in the registers from h on
abbrev pub with_args : Exprs → ℕ → Stand → Stand
with_args no_exprs h s = s
with_args (more_exprs e es) h s = with_args es (h + 1) (with_waiting h (type e) s)

abbrev mutual
  pub expr_stands : Expr → ℕ → Stand → Stands
  expr_stands (expr x node) h s = node_stands x.value node h s

  -- of a node of this type
  pub node_stands : Ty → Node → ℕ → Stand → Stands
  node_stands x (number at n) h s = s ∷ []
  node_stands x (quote at text) h s = s ∷ []
  node_stands x (truth at b) h s = s ∷ []
  node_stands x (name n is_outer moved) h s = s ∷ []
  node_stands x (paren at e) h s = expr_stands e h s
  node_stands x (chain e ls) h s =
      then_stands (h + 1) (expr_stands e h s) (expr_after e h (scope_at s) s.gone) (λ g. holding h (type e) (with_gone g s))
      (λ g. links_stands (type e) ls h (with_gone g s)) (λ g. links_after ls h (scope_at s) g) (λ g. holding h x (with_gone g s))
  node_stands x (unary at unary_op.Borrow e) h s = expr_stands e h s
  node_stands x (unary at op e) h s =
      then_stands (h + 1) (expr_stands e h s) (expr_after e h (scope_at s) s.gone) (λ g. holding h (type e) (with_gone g s))
      (λ g. unary_stands op (type e) h (with_gone g s)) (λ g. comes g) (λ g. holding h x (with_gone g s))
  node_stands x (call n f es) h s =
      then_stands (h + length (gives_list es)) (args_stands es h s) (args_after es h (scope_at s) s.gone) (λ g. with_gone g (with_args es h s))
      (λ g. with_gone g (with_args es h s) ∷ []) (λ g. comes g) (λ g. given h x (with_gone g s))
  node_stands x (array at t es) h s =
      then_stands (h + length (gives_list es)) (args_stands es h s) (args_after es h (scope_at s) s.gone) (λ g. with_gone g (with_args es h s))
      (λ g. with_gone g (with_args es h s) ∷ []) (λ g. comes g) (λ g. holding h x (with_gone g s))
  node_stands x (form f) h s = form_stands x f h s
  node_stands x (set at p e) h s =
      then_stands (h + 1) (expr_stands e h s) (expr_after e h (scope_at s) s.gone) (λ g. holding h (type e) (with_gone g s))
      (λ g. place_stands p (type e) h (with_gone g s)) (λ g. place_after p (gives_of (type e)) h (scope_at s) g) (λ g. holding h (type e) (with_gone g s))
  node_stands x (steps e (more_steps y ys)) h s =
      then_stands (h + 1)
      (start_stands e (step_view y) (λ n. step_changes n y) h s (λ k t. step_stands y h k s t) (λ k g. step_after y k (scope_at s) g) (λ g. holding h (lent (step_seen y)) (with_gone g s)))
      (start_after e (step_view y) (λ n. step_changes n y) h (scope_at s) s.gone (λ k g. step_after y k (scope_at s) g)) (λ g. holding h (lent (step_seen y)) (with_gone g s))
      (λ g. steps_stands (lent (step_seen y)) ys h (with_gone g s)) (λ g. steps_after ys h (scope_at s) g) (λ g. holding h (lent_last (lent (step_seen y)) ys) (with_gone g s))
  node_stands x (steps e no_steps) h s = s ∷ []
  node_stands x (iso at b) h s =
      s ∷ comes_stands (block_stands b h (h + 1) (deeper s)) (block_after b (h + 1) (scope_at s) s.gone) (λ g. given h (block_type b) (with_gone g (deeper s)) ∷ [])

  -- what a first step starts from, and what is done from there with the first free register
  pub start_stands : Expr → View → (ℕ → Bool) → ℕ → Stand → (ℕ → Stand → Stands) → (ℕ → Gone → After) → (Gone → Stand) → Stands
  start_stands (expr y (name n is_outer false)) view changes h s rest after end =
      if stays_of (find n.name.0 (scope_at s)) view (changes n.name.0) then rest h s else s ∷ rest (h + 1) (holding h (borrow_gives view) s)
  start_stands (expr y node) view changes h s rest after end =
      then_stands (h + 1) (node_stands y.value node h s) (node_after node h (scope_at s) s.gone) (λ g. holding h y.value (with_gone g s))
      (λ g. rest (h + 1) (holding h y.value (with_gone g s))) (λ g. after (h + 1) g) end

  -- what a step leads to goes to h, over what was known there; an index runs from k on
  pub step_stands : Step → ℕ → ℕ → Stand → Stand → Stands
  step_stands (index x view at e) h k over s =
      then_stands (k + 1) (expr_stands e k s) (expr_after e k (scope_at s) s.gone) (λ g. holding k (type e) (with_gone g s))
      (λ g. holding k (type e) (with_gone g s) ∷ []) (λ g. comes g) (λ g. holding h (lent x) (with_gone g over))
  step_stands x h k over s = s ∷ []

  -- from what stands in h, of this type
  pub steps_stands : Ty → Steps → ℕ → Stand → Stands
  steps_stands t no_steps h s = []
  steps_stands t (more_steps x xs) h s =
      then_stands (h + 1) (step_stands x h (h + 1) s (holding h t s)) (step_after x (h + 1) (scope_at s) s.gone) (λ g. holding h (lent (step_seen x)) (with_gone g s))
      (λ g. steps_stands (lent (step_seen x)) xs h (with_gone g s)) (λ g. steps_after xs h (scope_at s) g) (λ g. holding h (lent_last (lent (step_seen x)) xs) (with_gone g s))

  -- the place of a `set`: it gets what waits in h, of this type, and h what it held
  pub place_stands : Expr → Ty → ℕ → Stand → Stands
  place_stands (expr x (name n is_outer moved)) t h s = exchange_stands (find n.name.0 (scope_at s)) t h s
  place_stands (expr x (steps e (more_steps y no_steps))) t h s =
      start_stands e (step_view y) (λ n. step_changes n y) (h + 1) (with_waiting h t s) (λ k u. swap_stands y t h k s u)
      (λ k g. step_after y k (scope_at (with_waiting h t s)) g) (λ g. holding h t (with_gone g s))
  place_stands (expr x (steps e (more_steps y ys))) t h s =
      then_stands (h + 2)
      (start_stands e (step_view y) (λ n. step_changes n y) (h + 1) (with_waiting h t s) (λ k u. step_stands y (h + 1) k (with_waiting h t s) u)
      (λ k g. step_after y k (scope_at (with_waiting h t s)) g) (λ g. holding (h + 1) (lent (step_seen y)) (with_gone g (with_waiting h t s))))
      (start_after e (step_view y) (λ n. step_changes n y) (h + 1) (scope_at (with_waiting h t s)) (with_waiting h t s).gone (λ k g. step_after y k (scope_at (with_waiting h t s)) g))
      (λ g. holding (h + 1) (lent (step_seen y)) (with_gone g (with_waiting h t s)))
      (λ g. targets_stands (lent (step_seen y)) ys t h (h + 1) s (with_gone g (with_waiting h t s)))
      (λ g. targets_after ys (h + 1) (scope_at (with_waiting h t s)) g) (λ g. holding h t (with_gone g s))
  place_stands (expr x node) t h s = s ∷ []

  -- the steps of a place that is set, from what stands in h, of the type u; the value, of the type t, is in `new`, over what was known there
  pub targets_stands : Ty → Steps → Ty → ℕ → ℕ → Stand → Stand → Stands
  targets_stands u no_steps t new h over s = s ∷ []
  targets_stands u (more_steps x no_steps) t new h over s = swap_stands x t new (h + 1) over (holding h u s)
  targets_stands u (more_steps x xs) t new h over s =
      then_stands (h + 1) (step_stands x h (h + 1) s (holding h u s)) (step_after x (h + 1) (scope_at s) s.gone) (λ g. holding h (lent (step_seen x)) (with_gone g s))
      (λ g. targets_stands (lent (step_seen x)) xs t new h over (with_gone g s)) (λ g. targets_after xs h (scope_at s) g) (λ g. holding new t (with_gone g over))

  -- the last step of a place that is set
  pub swap_stands : Step → Ty → ℕ → ℕ → Stand → Stand → Stands
  swap_stands (index x view at e) t new k over s =
      then_stands (k + 1) (expr_stands e k s) (expr_after e k (scope_at s) s.gone) (λ g. holding k (type e) (with_gone g s))
      (λ g. holding k (type e) (with_gone g s) ∷ []) (λ g. comes g) (λ g. holding new t (with_gone g over))
  swap_stands x t new k over s = s ∷ []

  pub args_stands : Exprs → ℕ → Stand → Stands
  args_stands no_exprs h s = []
  args_stands (more_exprs e es) h s =
      then_stands (h + 1) (expr_stands e h s) (expr_after e h (scope_at s) s.gone) (λ g. with_waiting h (type e) (with_gone g s))
      (λ g. args_stands es (h + 1) (with_waiting h (type e) (with_gone g s)))
      (λ g. args_after es (h + 1) (scope_at (with_waiting h (type e) s)) (with_waiting h (type e) (with_gone g s)).gone)
      (λ g. with_gone g (with_args (more_exprs e es) h s))

  -- the operators after a value in h, of this type
  pub links_stands : Ty → Links → ℕ → Stand → Stands
  links_stands x no_links h s = []
  links_stands x (more_links (link y at op e) ls) h s =
      then_stands (h + 1) (link_stands op x (type e) y.value (λ h s. expr_stands e h s) (λ h g. expr_after e h (scope_at s) g) h s)
      (link_after op (λ h g. expr_after e h (scope_at s) g) h s.gone) (λ g. holding h y.value (with_gone g s))
      (λ g. links_stands y.value ls h (with_gone g s)) (λ g. links_after ls h (scope_at s) g) (λ g. holding h (chain_seen y ls).value (with_gone g s))

  -- of this type
  pub form_stands : Ty → Form → ℕ → Stand → Stands
  form_stands x (branch at c b es) h s =
      then_stands (h + 1) (expr_stands c h s) (expr_after c h (scope_at s) s.gone) (λ g. holding h (type c) (with_gone g s))
      (λ g. sides_stands (holding h (type c) (with_gone g s)) (block_stands b h (h + 1) (with_gone g s)) (block_after b (h + 1) (scope_at s) g) (λ g. given h x (with_gone g s))
      (elses_stands x es s.gone h (with_gone g s)))
      (λ g. met s.gone (block_after b (h + 1) (scope_at s) g) (elses_after es s.gone h (scope_at s) g)) (λ g. given h x (with_gone g s))
  form_stands x (pure at b) h s =
      s ∷ comes_stands (block_stands b h (h + 1) (deeper s)) (block_after b (h + 1) (scope_at s) s.gone) (λ g. given h x (with_gone g (deeper s)) ∷ [])
  form_stands x _ h s = s ∷ []

  pub elses_stands : Ty → Elses → Gone → ℕ → Stand → Stands
  elses_stands x no_else before h s = []
  elses_stands x (otherwise b) before h s = block_stands b h (h + 1) s
  elses_stands x (more_elses (else_if at c b) es) before h s =
      then_stands (h + 1) (expr_stands c h s) (expr_after c h (scope_at s) s.gone) (λ g. holding h (type c) (with_gone g s))
      (λ g. sides_stands (holding h (type c) (with_gone g s)) (block_stands b h (h + 1) (with_gone g s)) (block_after b (h + 1) (scope_at s) g) (λ g. given h x (with_gone g s))
      (elses_stands x es before h (with_gone g s)))
      (λ g. met before (block_after b (h + 1) (scope_at s) g) (elses_after es before h (scope_at s) g)) (λ g. given h x (with_gone g s))

  pub block_stands : Block → ℕ → ℕ → Stand → Stands
  block_stands (block at end x ss) to h s = stmts_stands x ss to h s

  -- whose value, of this type, goes to the register `to`
  pub stmts_stands : Ty → Stmts → ℕ → ℕ → Stand → Stands
  stmts_stands x no_stmts to h s = []
  stmts_stands x (last e) to h s = comes_stands (expr_stands e h s) (expr_after e h (scope_at s) s.gone) (λ g. hand_stands (type e) (holding h (type e) (with_gone g s)))
  stmts_stands x (more_stmts (declare n t e) ss) to h s =
      then_stands (h + 1) (expr_stands e h s) (expr_after e h (scope_at s) s.gone) (λ g. with_local n.name.0 h t (with_gone g s))
      (λ g. let inner = with_local n.name.0 h t (with_gone g s) in
      comes_stands (stmts_stands x ss to (h + 1) inner) (stmts_after ss (h + 1) (scope_at inner) inner.gone) (λ g. drop_local t h (given to x (with_gone g inner))))
      (λ g. stmts_after ss (h + 1) (scope_at (with_local n.name.0 h t s)) (with_local n.name.0 h t (with_gone g s)).gone) (λ g. given to x (with_gone g s))
  stmts_stands x (more_stmts (destructure at ns ts e) ss) to h s =
      then_stands (h + 1) (expr_stands e h s) (expr_after e h (scope_at s) s.gone) (λ g. holding h (type e) (with_gone g s))
      (λ g. holding h (type e) (with_gone g s)
      ∷ locals_stands (numbers_of ns) ts h (with_gone g s) (λ h s. stmts_stands x ss to h s) (λ h s g. stmts_after ss h s g) (λ s. given to x s))
      (λ g. locals_after (numbers_of ns) (all_gives ts) h (scope_at s) g (λ h s g. stmts_after ss h s g)) (λ g. given to x (with_gone g s))
  stmts_stands x (more_stmts y ss) to h s =
      then_stands h (stmt_stands y h s) (stmt_after y h (scope_at s) s.gone) (λ g. with_gone g s)
      (λ g. stmts_stands x ss to h (with_gone g s)) (λ g. stmts_after ss h (scope_at s) g) (λ g. given to x (with_gone g s))

  pub stmt_stands : Stmt → ℕ → Stand → Stands
  stmt_stands (return_nothing at) h s = leave_stands h y.void s
  stmt_stands (return_value at e) h s = comes_stands (expr_stands e h s) (expr_after e h (scope_at s) s.gone) (λ g. leave_stands h (type e) (with_gone g s))
  stmt_stands (form_stmt f) h s = form_stands y.void f h s
  stmt_stands (while at c b) h s = turns_stands h (expr_after c h (scope_at s) s.gone) s (expr_stands c h s) (type c) (block_stands b h (h + 1) s) (block_after b (h + 1) (scope_at s) s.gone)
  stmt_stands (foreach at n a e b) h s =
      then_stands (h + 1) (expr_stands a h s) (expr_after a h (scope_at s) s.gone) (λ g. holding h (type a) (with_gone g s))
      (λ g. then_stands (h + 2) (expr_stands e (h + 1) (holding h (type a) (with_gone g s))) (expr_after e (h + 1) (scope_at s) g) (λ g. holding (h + 1) (type e) (holding h (type a) (with_gone g s)))
      (λ g. let counted = holding (h + 1) (type e) (holding h (type a) (with_gone g s)) in let inner = with_local n.name.0 (h + 2) y.int counted in
      count_stands h counted (block_stands b h (h + 2 + 1) inner) (block_after b (h + 2 + 1) (scope_at inner) inner.gone)) (λ g. comes g) (λ g. with_gone g s))
      (λ g. expr_after e (h + 1) (scope_at s) g) (λ g. with_gone g s)
  stmt_stands (express (expr x (set at (expr y (name n is_outer moved)) e))) h s =
      comes_stands (expr_stands e h s) (expr_after e h (scope_at s) s.gone) (λ g. store_stands (find n.name.0 (scope_at s)) (type e) h (with_gone g s))
  stmt_stands (express e) h s = comes_stands (expr_stands e h s) (expr_after e h (scope_at s) s.gone) (λ g. drop_stands (type e) (holding h (type e) (with_gone g s)))
  stmt_stands _ h s = s ∷ []
