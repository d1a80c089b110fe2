-- The last of a list of steps.
use Rattle.std.specs.Prelude.{Bool}
use Rattle.vale_rules_spec.specs.Typed.{Steps, no_steps, more_steps}
use Rattle.vale_region_spec.specs.RegionRules.{step_is_frozen}

-- whether it sees its base as `&imm`, and this where there is none
abbrev pub last_or : Bool → Steps → Bool
last_or b no_steps = b
last_or b (more_steps s ss) = last_or (step_is_frozen s) ss
