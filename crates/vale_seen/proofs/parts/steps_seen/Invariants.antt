use Rattle.std.proofs.Common.{◌≡◌, map, drop}
use Rattle.vale_rules_spec.specs.Typed.{steps_seen}
use Rattle.vale_core.specs.View.{steps_of, view_seen, view_step}
use Rattle.vale_seen.proofs.parts.steps_seen.Given as goal

-- the steps that are left give, after what is known so far, what all of them give
abbrev pub invariant-loop-step : goal.invariant-loop-step
invariant-loop-step l = steps_seen (view_seen l.seen) (steps_of (map view_step (drop l.step-index l.steps))) ≡ steps_seen (view_seen l.base) (steps_of (map view_step l.steps))
