-- How a part of a program goes on from a state: as runs do.
use Rattle.std.specs.Prelude.{ℕ, ◌<◌}
use Rattle.vale_state_spec.specs.State.{State, Calls}
use Rattle.vale_text.specs.Progress.{Progresses, EndsRight}
use Rattle.vale_model.specs.Runs.{Locals, Result, goes, returned, ended, Run}
use Rattle.vale_model.specs.Loops.{state_in}

abbrev pub IsCutRight : {A : Type 0} → Result A → Type 0
IsCutRight (goes v l s) = Unit {0}
IsCutRight (returned v s) = Unit {0}
IsCutRight (ended end s) = EndsRight end s

-- a part goes on from a state as runs do
abbrev pub GoesOn : {A : Type 0} → State → Result A → Type 0
GoesOn s r = Progresses s (state_in r) × IsCutRight r

-- it does from every state with fewer ticks left than this
pub record AlwaysGoesOn {A : Type 0} (n : ℕ) (m : Run A) : Type 0 where
  pub from : (calls : Calls) (l : Locals) (s : State) → s.left < n → GoesOn s (m calls l s)
