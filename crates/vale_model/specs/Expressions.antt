-- What the expressions, statements and blocks of a program do, from left to right: a rule for each of them.
use Rattle.std.specs.Prelude.{ℕ, Bool, true, false, List, [], ◌∷◌, Option, Some, None}
use Rattle.vale_state_spec.specs.State.{State, Answer, fails, Looked, found, dead, nowhere, look, load, element, swap, swap_element, len, push, pop, make, merge, print, freeze, thaw, RegionEnd, merged, cleared, end_of_pure, end_of_isolate, isolated, function_frame, method_frame, width_of}
use Rattle.vale_state_spec.specs.World.{Value, Int, Truth, Text, Ref}
use Rattle.vale_base.specs.declared.spot.Spot.{Spot}
use Rattle.vale_base.specs.declared.trap.FrameAt.{FrameAt}
use Rattle.vale_base.specs.declared.trap.TrapKind.TheVariants.{DeadReference}
use Rattle.vale_text.specs.Steps as o
use Rattle.vale_syntax.specs.declared.built_in.BuiltIn.{BuiltIn}
use Rattle.vale_syntax.specs.declared.built_in.BuiltIn.TheVariants as b
use Rattle.vale_syntax.specs.declared.tree.NameAt.{NameAt}
use Rattle.vale_syntax.specs.declared.tree.BinaryOp.{BinaryOp}
use Rattle.vale_syntax.specs.declared.tree.BinaryOp.TheVariants.{Or, And, Equal, NotEqual, Less, LessEqual, Greater, GreaterEqual, Add, Sub, Mul, Div, Rem}
use Rattle.vale_syntax.specs.declared.tree.UnaryOp.{UnaryOp}
use Rattle.vale_syntax.specs.declared.tree.UnaryOp.TheVariants.{Minus, Not, Borrow, Merge}
use Rattle.vale_rules_spec.specs.Types.{Ty, void, is_owned, is_owner, View, seen_object}
use Rattle.vale_rules_spec.specs.Types as y
use Rattle.vale_rules_spec.specs.Typed.{Callee, built_in, constructor, function, Expr, expr, Node, set, chain, unary, steps, number, quote, truth, name, call, paren, array, iso, form, Exprs, no_exprs, more_exprs, link, Links, no_links, more_links, Step, field, method, index, Steps, no_steps, more_steps, Form, branch, pure, parallel_range, parallel_each, else_if, Elses, no_else, otherwise, more_elses, Block, block, Stmt, declare, destructure, return_nothing, return_value, while, foreach, form_stmt, express, Stmts, no_stmts, last, more_stmts, Function, type}
use Rattle.vale_model.specs.Parts.{name_text, is_pure, function_named, method_of, field_place, kind_of, type_of_kind}
use Rattle.vale_model.specs.Runs.{Run, ◌>>=◌, give, nothing, wrong, trap, step, change, tick, deep, valued, choose, read, move, exchange, while_waits}
use Rattle.vale_model.specs.Destruction.{Again, drop, drop_owned, leave, with_local, with_locals}
use Rattle.vale_model.specs.Loops.{number_in, turns, loop, numbered, taken_apart, loop_value}

-- ---- operators

-- `+` adds two numbers and joins two texts
abbrev pub plus : Value → Value → State → Answer
plus (Text x) w s = o.join (Text x) w s
plus v w s = o.add v w s

abbrev pub operated : BinaryOp → Value → Value → State → Answer
operated Or v w s = fails
operated And v w s = fails
operated Equal v w s = o.compare o.equal v w s
operated NotEqual v w s = o.compare o.not_equal v w s
operated Less v w s = o.compare o.less v w s
operated LessEqual v w s = o.compare o.less_equal v w s
operated Greater v w s = o.compare o.greater v w s
operated GreaterEqual v w s = o.compare o.greater_equal v w s
operated Add v w s = plus v w s
operated Sub v w s = o.sub v w s
operated Mul v w s = o.mul v w s
operated Div v w s = o.div v w s
operated Rem v w s = o.rem v w s

-- The operator between a value and an operand that hasn't run yet: `and` and `or` stop early.
abbrev pub link_run : Spot → BinaryOp → Value → Run (Option Value) → Run (Option Value)
link_run at Or v operand = choose v (give (Some (Truth true))) operand
link_run at And v operand = choose v operand (give (Some (Truth false)))
link_run at op v operand = do
  w ← valued operand
  step at (operated op v w)

abbrev pub unary_run : Spot → UnaryOp → Value → Run (Option Value)
unary_run at Minus v = step at (o.minus v)
unary_run at Not v = step at (o.opposite v)
unary_run at Borrow v = give (Some v)
unary_run at Merge v = step at (merge v)

-- ---- calls

-- A call of a pure function is a freeze of its own: it ends by what the function gives.
abbrev pub called_by : Bool → Again → Function → List Value → FrameAt → Run (Option Value)
called_by false again f vs frame = do
  _ ← deep 1 frame.at
  _ ← tick
  again.call f vs frame
called_by true again f vs frame = do
  _ ← deep 2 frame.at
  _ ← tick
  _ ← change freeze
  v ← again.call f vs frame
  _ ← change (thaw (end_of_pure v))
  give v

abbrev pub called : Again → Option Function → List Value → FrameAt → Run (Option Value)
called again None vs frame = wrong
called again (Some f) vs frame = called_by (is_pure f) again f vs frame

-- an object of this type, by its struct's implementation of the interface
abbrev pub dispatched_to : Again → Spot → Option Ty → Option Ty → ℕ → List Value → Run (Option Value)
dispatched_to again at (Some (y.kind i)) (Some (y.kind s)) m vs =
    called again (method_of again.parts i s m) vs (method_frame (name_text again.parts s) (name_text again.parts m) at)
dispatched_to again at _ _ m vs = wrong

abbrev pub dispatched_on : Again → Spot → Option Ty → ℕ → List Value → Looked → Run (Option Value)
dispatched_on again at x m vs (found n object) = dispatched_to again at x (type_of_kind again.parts object.kind) m (Ref n ∷ vs)
dispatched_on again at x m vs dead = trap DeadReference at
dispatched_on again at x m vs nowhere = wrong

-- a method of what the value leads to, which is seen as this interface: it has to live
abbrev pub dispatched : Again → Spot → Option Ty → ℕ → Value → List Value → Run (Option Value)
dispatched again at x m v vs = λ calls l s. dispatched_on again at x m vs (look v s) calls l s

abbrev pub built_in_run : Again → Spot → BuiltIn → List Value → Run (Option Value)
built_in_run again at b.Print (v ∷ []) = step at (print false v)
built_in_run again at b.Println (v ∷ []) = step at (print true v)
built_in_run again at b.Drop (v ∷ []) = drop again at (Some v)
built_in_run again at b.Len (v ∷ []) = step at (len v)
built_in_run again at b.Push (r ∷ v ∷ []) = step at (push r v)
built_in_run again at b.Pop (r ∷ []) = step at (pop r)
built_in_run again at b.Text (v ∷ []) = step at (o.text_of v)
built_in_run again at b.Slice (t ∷ x ∷ y ∷ []) = step at (o.slice t x y)
built_in_run again at b.Byte (t ∷ x ∷ []) = step at (o.byte t x)
built_in_run again at b.IsNumber (t ∷ []) = step at (o.is_number t)
built_in_run again at b.Number (t ∷ []) = step at (o.number t)
built_in_run again at _ _ = wrong

-- an object is made of its values, for one tick
abbrev pub made : Again → Spot → Ty → List Value → Run (Option Value)
made again at x vs = do
  _ ← tick
  step at (make (kind_of again.parts x) vs)

abbrev pub callee_run : Again → NameAt → Callee → List Value → Run (Option Value)
callee_run again n (built_in f) vs = built_in_run again n.at f vs
callee_run again n constructor vs = made again n.at (y.kind n.name.0) vs
callee_run again n (function is_pure) vs =
    called again (function_named again.parts n.name.0) vs (function_frame (name_text again.parts n.name.0) n.at)

-- ---- fields

abbrev pub on_place : Option ℕ → (ℕ → Run (Option Value)) → Run (Option Value)
on_place None go = wrong
on_place (Some i) go = go i

-- ---- freezes

-- the block runs in a region of its own, and the region ends by the block's value
abbrev pub frozen_run : Spot → (Option Value → RegionEnd) → Run (Option Value) → Run (Option Value)
frozen_run at end body = do
  _ ← deep 1 at
  _ ← change freeze
  v ← body
  _ ← change (thaw (end v))
  give v

-- a `pure` block that gives an owner leaves its objects to the enclosing region
abbrev pub end_of_block : Bool → RegionEnd
end_of_block true = merged
end_of_block false = cleared

-- ---- spots

abbrev pub form_spot : Form → Spot
form_spot (branch at c b es) = at
form_spot (pure at b) = at
form_spot (parallel_range at n a e b) = at
form_spot (parallel_each at n e b) = at

abbrev pub step_spot : Step → Spot
step_spot (field x v may_be_set at n) = at
step_spot (method x v at n es) = at
step_spot (index x v at e) = at

-- the spot of a chain is that of its last node, and else this
abbrev pub steps_spot : Spot → Steps → Spot
steps_spot at no_steps = at
steps_spot at (more_steps x xs) = steps_spot (step_spot x) xs

abbrev pub links_spot : Spot → Links → Spot
links_spot at no_links = at
links_spot at (more_links (link x to op e) ls) = links_spot to ls

abbrev pub expr_spot : Expr → Spot
expr_spot (expr x (set at p e)) = at
expr_spot (expr x (chain e ls)) = links_spot (expr_spot e) ls
expr_spot (expr x (unary at op e)) = at
expr_spot (expr x (steps e ss)) = steps_spot (expr_spot e) ss
expr_spot (expr x (number at n)) = at
expr_spot (expr x (quote at text)) = at
expr_spot (expr x (truth at b)) = at
expr_spot (expr x (name n is_outer moved)) = n.at
expr_spot (expr x (call n f es)) = n.at
expr_spot (expr x (paren at e)) = at
expr_spot (expr x (array at t es)) = at
expr_spot (expr x (iso at b)) = at
expr_spot (expr x (form f)) = form_spot f

abbrev pub numbers_of : List NameAt → List ℕ
numbers_of [] = []
numbers_of (n ∷ ns) = n.name.0 ∷ numbers_of ns

-- ---- the tree

abbrev mutual
  pub expr_run : Again → Expr → Run (Option Value)
  expr_run again (expr x node) = node_run again x.value node

  -- a node whose value has this type
  pub node_run : Again → Ty → Node → Run (Option Value)
  node_run again x (number at n) = give (Some (Int n))
  node_run again x (quote at text) = give (Some (Text text))
  node_run again x (truth at b) = give (Some (Truth b))
  node_run again x (name n is_outer true) = do
    v ← move n.name.0
    give (Some v)
  node_run again x (name n is_outer false) = do
    v ← read n.name.0
    give (Some v)
  node_run again x (paren at e) = expr_run again e
  node_run again x (chain e ls) = do
    v ← valued (expr_run again e)
    links_run again v ls
  node_run again x (unary at op e) = do
    v ← valued (expr_run again e)
    unary_run at op v
  node_run again x (steps e ss) = do
    v ← valued (expr_run again e)
    steps_run again v ss
  -- the value, then the place
  node_run again x (set at p e) = do
    v ← valued (expr_run again e)
    while_waits (is_owned (type e)) v (set_run again v p)
  node_run again x (call n f es) = do
    vs ← exprs_run again es
    callee_run again n f vs
  node_run again x (array at t es) = do
    vs ← exprs_run again es
    made again at x vs
  node_run again x (iso at b) = do
    v ← frozen_run at end_of_isolate (block_run again b)
    give (isolated v)
  node_run again x (form f) = form_run again x f

  -- each waits for those after it
  pub exprs_run : Again → Exprs → Run (List Value)
  exprs_run again no_exprs = give []
  exprs_run again (more_exprs e es) = do
    v ← valued (expr_run again e)
    vs ← while_waits (is_owned (type e)) v (exprs_run again es)
    give (v ∷ vs)

  pub links_run : Again → Value → Links → Run (Option Value)
  links_run again v no_links = give (Some v)
  links_run again v (more_links (link x at op e) ls) = do
    w ← valued (link_run at op v (expr_run again e))
    links_run again w ls

  -- a step from what the value leads to
  pub step_run : Again → Value → Step → Run (Option Value)
  step_run again v (field x view may_be_set at n) = on_place (field_place again.parts view n.0) (λ i. step at (load i v))
  step_run again v (index x view at e) = do
    i ← valued (expr_run again e)
    step at (element v i)
  step_run again v (method x view at n es) = do
    vs ← exprs_run again es
    dispatched again at (seen_object view) n.0 v vs

  -- the last step may be a call that gives nothing
  pub steps_run : Again → Value → Steps → Run (Option Value)
  steps_run again v no_steps = give (Some v)
  steps_run again v (more_steps x no_steps) = step_run again v x
  steps_run again v (more_steps x xs) = do
    w ← valued (step_run again v x)
    steps_run again w xs

  -- the place holds the new value now; what it held comes out
  pub set_run : Again → Value → Expr → Run (Option Value)
  set_run again new (expr x (name n is_outer moved)) = do
    old ← exchange n.name.0 new
    give (Some old)
  set_run again new (expr x (steps e ss)) = do
    v ← valued (expr_run again e)
    set_steps again new v ss
  set_run again new _ = wrong

  pub set_steps : Again → Value → Value → Steps → Run (Option Value)
  set_steps again new v no_steps = wrong
  set_steps again new v (more_steps x no_steps) = set_step again new v x
  set_steps again new v (more_steps x xs) = do
    w ← valued (step_run again v x)
    set_steps again new w xs

  pub set_step : Again → Value → Value → Step → Run (Option Value)
  set_step again new v (field x view may_be_set at n) = on_place (field_place again.parts view n.0) (λ i. step at (swap i v new))
  set_step again new v (index x view at e) = do
    i ← valued (expr_run again e)
    step at (swap_element v i new)
  set_step again new v (method x view at n es) = wrong

  -- a form whose value has this type
  pub form_run : Again → Ty → Form → Run (Option Value)
  form_run again x (branch at c b es) = do
    v ← valued (expr_run again c)
    choose v (block_run again b) (elses_run again es)
  form_run again x (pure at b) = frozen_run at (λ v. end_of_block (is_owner x)) (block_run again b)
  form_run again x (parallel_range at n a e b) = do
    v ← valued (expr_run again a)
    w ← valued (expr_run again e)
    from ← number_in v
    to ← number_in w
    firsts ← numbered at from to
    vs ← loop at firsts (λ first. iteration_body again n false first b)
    loop_value again.parts at x vs
  -- the array dies before the first iteration
  form_run again x (parallel_each at n e b) = do
    v ← valued (expr_run again e)
    firsts ← taken_apart v
    vs ← loop at firsts (λ first. iteration_body again n true first b)
    loop_value again.parts at x vs

  -- an iteration's block, with its number or its isolate as a local
  pub iteration_body : Again → NameAt → Bool → Value → Block → Run (Option Value)
  iteration_body again n owned first (block at end x ss) = with_local again end n.name.0 owned first (stmts_run again end ss)

  pub elses_run : Again → Elses → Run (Option Value)
  elses_run again no_else = nothing
  elses_run again (otherwise b) = block_run again b
  elses_run again (more_elses (else_if at c b) es) = do
    v ← valued (expr_run again c)
    choose v (block_run again b) (elses_run again es)

  pub block_run : Again → Block → Run (Option Value)
  block_run again (block at end x ss) = stmts_run again end ss

  -- A declared local lives for the rest of its block, which ends at this spot: what the block gives is evaluated before it is
  -- dropped.
  pub stmts_run : Again → Spot → Stmts → Run (Option Value)
  stmts_run again end no_stmts = nothing
  stmts_run again end (last e) = expr_run again e
  stmts_run again end (more_stmts (declare n x e) ss) = do
    v ← valued (expr_run again e)
    with_local again end n.name.0 (is_owned x) v (stmts_run again end ss)
  stmts_run again end (more_stmts (destructure at ns xs e) ss) = do
    v ← valued (expr_run again e)
    vs ← taken_apart v
    with_locals again end (numbers_of ns) xs vs (stmts_run again end ss)
  stmts_run again end (more_stmts x ss) = do
    _ ← stmt_run again x
    stmts_run again end ss

  pub stmt_run : Again → Stmt → Run (Option Value)
  stmt_run again (declare n x e) = wrong
  stmt_run again (destructure at ns xs e) = wrong
  stmt_run again (return_nothing at) = leave again at None
  stmt_run again (return_value at e) = do
    v ← expr_run again e
    leave again at v
  stmt_run again (while at c b) = do
    v ← valued (expr_run again c)
    choose v (tick >>= (λ _. again.turn c b)) nothing
  stmt_run again (foreach at n a e b) = do
    v ← valued (expr_run again a)
    w ← valued (expr_run again e)
    from ← number_in v
    to ← number_in w
    turns (width_of from to) from (λ x. iteration_body again n false (Int x) b)
  stmt_run again (form_stmt f) = form_run again void f
  -- a value that isn't used is dropped
  stmt_run again (express e) = do
    v ← expr_run again e
    drop_owned again (expr_spot e) (is_owned (type e)) v
