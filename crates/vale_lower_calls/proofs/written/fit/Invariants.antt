use Rattle.std.proofs.Common.{◌≡◌, map, drop}
use Rattle.vale_syntax.specs.View.{view_param}
use Rattle.vale_lowering_objects.specs.Scopes.{all_agree}
use Rattle.vale_lowering_objects.specs.Lowered.{param_gives_of}
use Rattle.vale_lower_flow.specs.Kept.{view_gives}
use Rattle.vale_lower_calls.proofs.written.fit.Given as goal

-- those before agree
abbrev pub invariant-loop-at : goal.invariant-loop-at
invariant-loop-at l = all_agree (map view_gives (drop l.at l.values)) (param_gives_of (map view_param (drop l.at l.params))) ≡ all_agree (map view_gives l.values) (param_gives_of (map view_param l.params))
