use Rattle.std.proofs.Common.{◌≡◌, ◌-◌, List, take, length}
use Rattle.vale_lowering_objects.specs.Scopes.{Entry}
use Rattle.vale_lower_flow.specs.Entries.{framed}
use Rattle.vale_lower_flow.specs.Flow.{going}
use Rattle.vale_lower_places.specs.Places.{scope_dropped}
use Rattle.vale_lower_places.proofs.locals.drop_frame.Given as goal

-- those that are left, after what was dropped
abbrev pub invariant-loop-back : goal.invariant-loop-back
invariant-loop-back l = (outer : List Entry) → scope_dropped (framed (take (length l.locals - l.back) l.locals) outer) l.at (going l.flow) ≡ scope_dropped (framed l.locals outer) l.at (going l.initial.flow)
