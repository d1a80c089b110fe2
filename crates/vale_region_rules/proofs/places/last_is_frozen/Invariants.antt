use Rattle.std.proofs.Common.{◌≡◌, map, drop}
use Rattle.vale_core.specs.View.{view_step, steps_of}
use Rattle.vale_region_spec.specs.RegionRules.{last_is_frozen}
use Rattle.vale_region_rules.specs.Last.{last_or}
use Rattle.vale_region_rules.proofs.places.last_is_frozen.Given as goal

-- the last step so far, and after it those that are left
abbrev pub invariant-loop-step : goal.invariant-loop-step
invariant-loop-step l = last_or l.last (steps_of (map view_step (drop l.step-index l.steps))) ≡ last_is_frozen (steps_of (map view_step l.steps))
