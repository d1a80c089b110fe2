-- What a run of code gives.
use Rattle.std.specs.Prelude.{◌≡◌, ℕ, zero, suc, List, [], ◌∷◌, Option, Some, None}
use Rattle.vale_state_spec.specs.Outcome.{Outcome, End, Wrong}
use Rattle.vale_state_spec.specs.State.{State, Given, given, begin, born, function_frame, outcome}
use Rattle.vale_state_spec.specs.World.{Value, Own, next_name}
use Rattle.vale_base.specs.declared.spot.Spot.{Spot}
use Rattle.vale_code.specs.Act.{step_by}
use Rattle.vale_code.specs.Enter.{Form, Plain, function, enter}
use Rattle.vale_code.specs.Frames.{Config, Next, On, Over, wrong, after_tick}
use Rattle.vale_code.specs.Fuel.{fuel}
use Rattle.vale_code.specs.Kinds.{text_at}
use Rattle.vale_code.specs.Parts.{Parts}
use Rattle.vale_code.specs.declared.ty.Ty.{Ty}
use Rattle.vale_code.specs.declared.ty.Ty.TheVariants as t

-- how a run ended, with the value of an iteration by itself, and the state at its end
pub record Ending : Type 0 where
  pub end : End
  pub value : Option Value
  pub state : State

abbrev pub then_go : Next → (Config → Option Ending) → Option Ending
then_go (On c) go = go c
then_go (Over end v s) go = Some (record { end = end; value = v; state = s })

-- at most so many steps
abbrev pub exec_by : Parts → (Config → State) → ℕ → Config → Option Ending
exec_by code last zero c = None
exec_by code last (suc n) c = then_go (step_by code last c) (exec_by code last n)

-- every run ends before its fuel does
abbrev pub ended_or_wrong : State → Option Ending → Ending
ended_or_wrong s None = record { end = Wrong; value = None; state = s }
ended_or_wrong s (Some e) = e

abbrev pub same_state : Config → State
same_state c = c.state

-- the run of an iteration, in which no loop asks for more
abbrev pub run_alone : Parts → Config → Ending
run_alone code c = ended_or_wrong c.state (exec_by code same_state (suc (fuel code c)) c)

abbrev pub last_state : Parts → Config → State
last_state code c = (run_alone code c).state

abbrev pub step : Parts → Config → Next
step code c = step_by code (last_state code) c

abbrev pub exec : Parts → ℕ → Config → Option Ending
exec code n c = exec_by code (last_state code) n c

abbrev pub go_on : Next → (Config → Next) → Next
go_on (On c) go = go c
go_on (Over end v s) go = Over end v s

-- what so many steps lead to
abbrev pub steps : Parts → ℕ → Config → Next
steps code zero c = On c
steps code (suc n) c = go_on (step code c) (steps code n)

abbrev pub state_in : Next → State
state_in (On c) = c.state
state_in (Over end v s) = s

-- ---- the start

abbrev pub first_spot : Spot
first_spot = record { line = 1; col = 1 }

-- What `main` gets: nothing, or the input array, which is made first.
abbrev pub with_input : List Ty → Option (List Value) → State → (List Value → State → Next) → Next
with_input [] None s go = go [] s
with_input (t.Own kind ∷ []) (Some values) s go = after_tick s (λ u. go (Own (next_name u.world) ∷ []) (born kind values u))
with_input _ _ s go = wrong s

abbrev pub if_plain : Form → State → Next → Next
if_plain Plain s go = go
if_plain _ s go = wrong s

abbrev pub start : Parts → Given → ℕ → Next
start code input ticks =
    function code code.main (begin ticks) (λ form func.
    if_plain form (begin ticks) (with_input func.params (given input) (begin ticks) (λ args s.
    enter code.main form func (function_frame (text_at code func.name) first_spot) None args [] s)))

abbrev pub fuel_after : Parts → Next → ℕ
fuel_after code (On c) = suc (fuel code c)
fuel_after code (Over end v s) = 0

-- how the run of a code ends with this input and so many ticks
abbrev pub ending_of : Parts → Given → ℕ → Ending
ending_of code input ticks = ended_or_wrong (begin ticks) (then_go (start code input ticks) (exec code (fuel_after code (start code input ticks))))

abbrev pub outcome_of : Ending → Outcome
outcome_of e = outcome e.end e.state

-- what it gives
abbrev pub run_code : Parts → Given → ℕ → Outcome
run_code code input ticks = outcome_of (ending_of code input ticks)

-- this is how the run ends, after some number of steps
abbrev pub EndsIn : Parts → Given → ℕ → Ending → Type 0
EndsIn code input ticks e = (n : ℕ) × (then_go (start code input ticks) (exec code n) ≡ Some e)
