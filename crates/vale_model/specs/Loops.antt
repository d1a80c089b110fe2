-- Loops over whole numbers, and parallel loops, whose iterations run one after another in the order of their indices, each in a
-- fresh region.
use Rattle.std.specs.Prelude.{ℕ, zero, suc, ◌+◌, nat_lt, ℤ, pos, ◌+ℤ◌, List, [], ◌∷◌, Option, Some, None, if◌then◌else◌}
use Rattle.vale_base.specs.Limits.{width_limit}
use Rattle.vale_state_spec.specs.State.{State, Calls, iteration_frame, make, dies, object_of, freeze_iteration, thaw_iteration, end_of_isolate, isolated, width_of, is_outermost, alone, loop_counted, counting_as}
use Rattle.vale_state_spec.specs.World.{Value, Int, Own, Object}
use Rattle.vale_base.specs.declared.spot.Spot.{Spot}
use Rattle.vale_base.specs.declared.trap.TrapKind.TheVariants.{LoopTooWide}
use Rattle.vale_rules_spec.specs.Types.{Ty, array}
use Rattle.vale_model.specs.Parts.{Parts, kind_of}
use Rattle.vale_model.specs.Runs.{Locals, Result, goes, returned, ended, Run, then_do, ◌>>=◌, give, nothing, wrong, trap, step, change, tick, deep, under}

abbrev pub number_in : Value → Run ℤ
number_in (Int z) = give z
number_in _ = wrong

-- ---- `foreach`

-- so many turns from a number on; whatever the body sets, the next turn has the next number
abbrev pub turns : ℕ → ℤ → (ℤ → Run (Option Value)) → Run (Option Value)
turns zero x body = nothing
turns (suc more) x body = do
  _ ← tick
  _ ← body x
  turns more (x +ℤ pos 1) body

-- ---- parallel loops

-- what an iteration does in its region
abbrev pub in_region : Run (Option Value) → Run (Option Value)
in_region body = do
  _ ← change freeze_iteration
  v ← body
  _ ← change (thaw_iteration (end_of_isolate v))
  give (isolated v)

abbrev pub iteration : Spot → ℕ → Run (Option Value) → Run (Option Value)
iteration at k body = do
  _ ← deep 1 at
  _ ← tick
  under (iteration_frame k at) (in_region body)

abbrev pub collected : Option Value → List Value → List Value
collected None vs = vs
collected (Some v) vs = v ∷ vs

-- the iterations from k on, each with its value, and what they give
abbrev pub in_order : Spot → ℕ → List Value → (Value → Run (Option Value)) → Run (List Value)
in_order at k [] body = give []
in_order at k (v ∷ vs) body = do
  u ← iteration at k (body v)
  us ← in_order at (k + 1) vs body
  give (collected u us)

abbrev pub state_in : {A : Type 0} → Result A → State
state_in (goes v l s) = s
state_in (returned v s) = s
state_in (ended end s) = s

-- how each iteration leaves the run that has it alone, from the loop's start
abbrev pub each_alone : Spot → ℕ → List Value → (Value → Run (Option Value)) → Calls → Locals → State → List State
each_alone at k [] body calls l s = []
each_alone at k (v ∷ vs) body calls l s = state_in (iteration at k (body v) calls l (alone s)) ∷ each_alone at (k + 1) vs body calls l s

abbrev pub loop : Spot → List Value → (Value → Run (Option Value)) → Run (List Value)
loop at vs body = λ calls l s.
    if is_outermost s
    then then_do (in_order at 0 vs body calls l (loop_counted (each_alone at 0 vs body calls l s) s)) (λ us l t. goes us l (counting_as s t))
    else in_order at 0 vs body calls l s

abbrev pub indices : ℕ → ℤ → List Value
indices zero x = []
indices (suc more) x = Int x ∷ indices more (x +ℤ pos 1)

-- the numbers of the iterations
abbrev pub numbered : Spot → ℤ → ℤ → Run (List Value)
numbered at a b = if nat_lt width_limit (width_of a b) then trap LoopTooWide at else give (indices (width_of a b) a)

abbrev pub emptied : ℕ → Option Object → Run (List Value)
emptied n None = wrong
emptied n (Some o) = do
  _ ← tick
  _ ← change (dies n)
  give o.values

-- the owner's object dies, and its values come out
abbrev pub taken_apart : Value → Run (List Value)
taken_apart (Own n) = λ calls l s. emptied n (object_of n s) calls l s
taken_apart _ = wrong

-- the array of what the iterations gave, where the loop has such a type
abbrev pub loop_value : Parts → Spot → Ty → List Value → Run (Option Value)
loop_value p at (array x) vs = do
  _ ← tick
  step at (make (kind_of p (array x)) vs)
loop_value p at _ vs = nothing
