use Rattle.std.proofs.Common.{◌≡◌, drop}
use Rattle.vale_lowering_objects.specs.Scopes.{Scope}
use Rattle.vale_lower_flow.specs.Closing.{closed}
use Rattle.vale_lower_flow.specs.Entries.{framed}
use Rattle.vale_lower_flow.specs.Flow.{going}
use Rattle.vale_lower_parts.specs.Located.{Rest, Leaves}
use Rattle.vale_lower_parts.proofs.BlockLaws.{kept_located}
use Rattle.vale_lower_parts.proofs.frame.Frame.declare_all.Given as goal

-- what is left runs in the scope so far
abbrev pub invariant-loop-at : goal.invariant-loop-at
invariant-loop-at l = (outer : Scope) (after : Leaves) (rest : Rest) →
    closed l.self.closings (kept_located l.end after rest (drop l.at l.names) (drop l.at l.types) l.self.next (framed l.self.locals.items outer) (going l.flow))
    ≡ closed l.initial.self.closings (kept_located l.end after rest l.names l.types l.initial.self.next (framed l.initial.self.locals.items outer) (going l.initial.flow))
