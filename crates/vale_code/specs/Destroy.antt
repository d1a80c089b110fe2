-- How objects are destroyed.
use Rattle.std.specs.Prelude.{ℕ, List, [], ◌∷◌, Option, Some, None}
use Rattle.vale_state_spec.specs.State.{State, object_of, dies, join_isolate, drop_frame}
use Rattle.vale_state_spec.specs.World.{Value, Own, Iso, Object}
use Rattle.vale_base.specs.declared.spot.Spot.{Spot}
use Rattle.vale_code.specs.Enter.{function, enter, if_destructor}
use Rattle.vale_code.specs.Frames.{Frame, Dropping, Emptying, Next, on, wrong, deeper, after_tick, leave}
use Rattle.vale_code.specs.Kinds.{kind_text, destructor_of}
use Rattle.vale_code.specs.Parts.{Parts}

-- The destructor of the object's kind is entered with its owner; where there is none the object dies, and then its values are
-- dropped.
abbrev pub destroy_by : Parts → Option ℕ → ℕ → Object → Spot → List Frame → State → Next
destroy_by code (Some f) n o at frames s =
    function code f s (λ form func.
    if_destructor form s (enter f form func (drop_frame (kind_text code o.kind) at) None (Own n ∷ []) frames s))
destroy_by code None n o at frames s =
    deeper 1 at frames s (after_tick s (λ t.
    on (Dropping (record { call = drop_frame (kind_text code o.kind) at; rest = o.values })) frames (dies n t)))

abbrev pub destroy_object : Parts → Option Object → ℕ → Spot → List Frame → State → Next
destroy_object code None n at frames s = wrong s
destroy_object code (Some o) n at frames s = destroy_by code (destructor_of code o.kind) n o at frames s

-- An owner's object is destroyed over the frames that go on after it. An isolate is merged first.
abbrev pub destroy : Parts → Value → Spot → List Frame → State → Next
destroy code (Own n) at frames s = destroy_object code (object_of n s) n at frames s
destroy code (Iso n) at frames s = destroy_object code (object_of n (join_isolate n s)) n at frames (join_isolate n s)
destroy code v at frames s = wrong s

-- the first owner or isolate of some values, and the values after it
pub record Owned : Type 0 where
  pub first : Value
  pub rest : List Value

abbrev pub first_owned : List Value → Option Owned
first_owned [] = None
first_owned (Own n ∷ vs) = Some (record { first = Own n; rest = vs })
first_owned (Iso n ∷ vs) = Some (record { first = Iso n; rest = vs })
first_owned (v ∷ vs) = first_owned vs

abbrev pub drop_rest : Parts → Option Owned → Emptying → List Frame → State → Next
drop_rest code None f below s = leave below None None s
drop_rest code (Some o) f below s = destroy code o.first f.call.at (Dropping (record f { rest = o.rest }) ∷ below) s

-- the next value of a dead object that has to be destroyed
abbrev pub drop_next : Parts → Emptying → List Frame → State → Next
drop_next code f below s = drop_rest code (first_owned f.rest) f below s
