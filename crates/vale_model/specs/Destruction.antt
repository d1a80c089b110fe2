-- Scopes and destruction: an object dies, which takes its values out, and then they are dropped in order; one with a destructor
-- is destroyed by calling it with the owner.
use Rattle.std.specs.Prelude.{ℕ, Bool, true, false, List, [], ◌∷◌, Option, Some, None}
use Rattle.vale_state_spec.specs.State.{dies, drop_frame, join_isolate, object_of}
use Rattle.vale_state_spec.specs.World.{Value, Own, Iso, Object}
use Rattle.vale_base.specs.declared.spot.Spot.{Spot}
use Rattle.vale_base.specs.declared.trap.FrameAt.{FrameAt}
use Rattle.vale_rules_spec.specs.Types.{Ty, kind, is_owned}
use Rattle.vale_rules_spec.specs.Typed.{Function, Expr, Block}
use Rattle.vale_model.specs.Parts.{Parts, destructor_of, type_of_kind, kind_text}
use Rattle.vale_model.specs.Runs.{Locals, goes, returned, Run, then_do, ◌>>=◌, nothing, wrong, change, tick, deep, outer, innermost}

-- what goes on after a tick: another turn of a loop, a call, and the drops of a dead object's values, each under its frame
pub record Again : Type 0 where
  pub parts : Parts
  pub turn : Expr → Block → Run (Option Value)
  pub call : Function → List Value → FrameAt → Run (Option Value)
  pub fields : List Value → FrameAt → Run (Option Value)

abbrev pub destructor_in : Parts → Option Ty → Option Function
destructor_in p (Some (kind s)) = destructor_of p s
destructor_in p _ = None

abbrev pub destroyed_by : Again → Option Function → ℕ → Object → FrameAt → Run (Option Value)
destroyed_by again None n o frame = do
  _ ← tick
  _ ← change (dies n)
  again.fields o.values frame
destroyed_by again (Some f) n o frame = do
  _ ← tick
  again.call f (Own n ∷ []) frame

abbrev pub destroyed : Again → Spot → ℕ → Option Object → Run (Option Value)
destroyed again at n None = wrong
destroyed again at n (Some o) = do
  _ ← deep 1 at
  destroyed_by again (destructor_in again.parts (type_of_kind again.parts o.kind)) n o (drop_frame (kind_text again.parts o.kind) at)

-- the owner's object is destroyed
abbrev pub destroy : Again → Spot → ℕ → Run (Option Value)
destroy again at n = λ calls l s. destroyed again at n (object_of n s) calls l s

-- an owner is destroyed, an isolate is merged and its root destroyed, and of anything else nothing has to be done
abbrev pub drop : Again → Spot → Option Value → Run (Option Value)
drop again at (Some (Own n)) = destroy again at n
drop again at (Some (Iso n)) = do
  _ ← change (join_isolate n)
  destroy again at n
drop again at _ = nothing

-- what a part of a type leaves is dropped where the type is that of an owner or an isolate
abbrev pub drop_owned : Again → Spot → Bool → Option Value → Run (Option Value)
drop_owned again at true v = drop again at v
drop_owned again at false v = nothing

abbrev pub drop_values : Again → Spot → List Value → Run (Option Value)
drop_values again at [] = nothing
drop_values again at (v ∷ vs) = do
  _ ← drop again at (Some v)
  drop_values again at vs

abbrev pub drop_locals : Again → Spot → Locals → Run (Option Value)
drop_locals again at [] = nothing
drop_locals again at (x ∷ l) = do
  _ ← drop_owned again at x.owned x.value
  drop_locals again at l

-- The function returns: its locals and the values that wait are dropped, the innermost first.
abbrev pub leave : {A : Type 0} → Again → Spot → Option Value → Run A
leave again at v = λ calls l s. then_do (drop_locals again at l calls [] s) (λ u l s. returned v s)

-- A local has this value while the part runs, and is dropped after it, at the closing brace of its scope.
abbrev pub with_local : {A : Type 0} → Again → Spot → ℕ → Bool → Value → Run A → Run A
with_local again end n owned v m = λ calls l s. then_do (m calls (record { name = Some n; value = Some v; owned = owned } ∷ l) s)
    (λ r l s. then_do (drop_owned again end owned (innermost l) calls (outer l) s) (λ u l s. goes r l s))

-- locals of these types
abbrev pub with_locals : {A : Type 0} → Again → Spot → List ℕ → List Ty → List Value → Run A → Run A
with_locals again end [] [] [] m = m
with_locals again end (n ∷ ns) (x ∷ xs) (v ∷ vs) m = with_local again end n (is_owned x) v (with_locals again end ns xs vs m)
with_locals again end _ _ _ m = wrong
