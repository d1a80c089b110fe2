-- How many frames a run may need: one for each object that lives at once, where each iteration of an outermost parallel loop is
-- counted by itself, and those whose slots are used up.
use Rattle.std.specs.Prelude.{ℕ, ◌+◌, ◌-◌, ◌/◌, ◌^◌, nat_lt, if◌then◌else◌}
use Rattle.vale_state_spec.specs.State.{State, Given}
use Rattle.vale_rules_spec.specs.Typed.{Typed}
use Rattle.vale_model.specs.Parts.{parts_of}
use Rattle.vale_model.specs.Loops.{state_in}
use Rattle.vale_model.specs.Meaning.{run_of}

-- the frames whose slots may come to their last generation: none, where the generations outlast the ticks
abbrev pub spoiled : ℕ → ℕ → ℕ → ℕ
spoiled first ticks made = if nat_lt (first + ticks) (2 ^ 64 - 1) then 0 else made / (2 ^ 64 - first)

abbrev pub need_of : ℕ → ℕ → State → ℕ
need_of first ticks s = s.most + spoiled first ticks s.made

-- the frames that suffice the program on its input, with so many ticks, where every slot begins at this generation
abbrev pub need : Typed → Given → ℕ → ℕ → ℕ
need program input ticks first = need_of first ticks (state_in (run_of (parts_of program) input ticks))
