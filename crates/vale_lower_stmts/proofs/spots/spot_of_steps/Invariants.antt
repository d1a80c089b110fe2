use Rattle.std.proofs.Common.{◌≡◌, map, drop}
use Rattle.vale_core.specs.View.{view_step, steps_of}
use Rattle.vale_model.specs.Expressions.{steps_spot}
use Rattle.vale_lower_stmts.proofs.spots.spot_of_steps.Given as goal

abbrev pub invariant-loop-step : goal.invariant-loop-step
invariant-loop-step l = steps_spot l.last (steps_of (map view_step (drop l.step-index l.slice))) ≡ steps_spot l.fn.at (steps_of (map view_step l.slice))
