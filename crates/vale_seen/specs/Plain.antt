-- Parts of definitions, as the code computes them.
use Rattle.std.specs.Prelude.{Bool}
use Rattle.vale_rules_spec.specs.Typed.{Steps, no_steps, more_steps, step_may_be_set}

-- whether what the last of these steps is may be set, and this where there is none
abbrev pub last_or : Bool → Steps → Bool
last_or b no_steps = b
last_or b (more_steps s ss) = last_or (step_may_be_set s) ss
