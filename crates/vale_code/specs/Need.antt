-- How many frames a run of code may need.
use Rattle.std.specs.Prelude.{ℕ, ◌+◌, ◌-◌, ◌/◌, ◌^◌, nat_lt, if◌then◌else◌}
use Rattle.vale_state_spec.specs.State.{State, Given}
use Rattle.vale_code.specs.Parts.{Parts}
use Rattle.vale_code.specs.Run.{ending_of}

-- the slots that so many objects may bring to their last generation, where slots begin with this one
abbrev pub spoiled : ℕ → ℕ → ℕ → ℕ
spoiled made ticks first = if nat_lt (first + ticks) (2 ^ 64 - 1) then 0 else made / (2 ^ 64 - first)

abbrev pub need_at : State → ℕ → ℕ → ℕ
need_at s ticks first = s.most + spoiled s.made ticks first

-- the greatest number of live objects, iterations counted by themselves, and the slots that may be spoiled
abbrev pub need : Parts → Given → ℕ → ℕ → ℕ
need code input ticks first = need_at (ending_of code input ticks).state ticks first
