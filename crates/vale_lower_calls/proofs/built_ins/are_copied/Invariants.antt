use Rattle.std.proofs.Common.{◌≡◌, map, drop}
use Rattle.vale_lowering_objects.specs.Lowered.{are_copied}
use Rattle.vale_lower_flow.specs.Kept.{view_gives}
use Rattle.vale_lower_calls.proofs.built_ins.are_copied.Given as goal

-- those before are copied
abbrev pub invariant-loop-gives : goal.invariant-loop-gives
invariant-loop-gives l = are_copied (map view_gives (drop l.gives-index l.values)) ≡ are_copied (map view_gives l.values)
