use Rattle.std.proofs.Common.{◌≡◌, map, drop}
use Rattle.vale_rules_spec.specs.Typed.{last_may_be_set}
use Rattle.vale_core.specs.View.{steps_of, view_step}
use Rattle.vale_seen.specs.Plain.{last_or}
use Rattle.vale_seen.proofs.parts.last_may_be_set.Given as goal

-- the steps that are left give, after the one before them, what all of them give
abbrev pub invariant-loop-step : goal.invariant-loop-step
invariant-loop-step l = last_or l.last (steps_of (map view_step (drop l.step-index l.steps))) ≡ last_may_be_set (steps_of (map view_step l.steps))
