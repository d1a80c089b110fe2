use Rattle.std.proofs.Common.{◌≡◌, length}
use Rattle.vale_lower_flow.specs.Closing.{closed_all}
use Rattle.vale_lower_flow.specs.Flow.{going}
use Rattle.vale_lower_flow.proofs.closing.Closings.close.Given as goal

-- those that are left, after what was done, do what all of them do
abbrev pub invariant-loop-closing : goal.invariant-loop-closing
invariant-loop-closing l = closed_all l.self.all.items (going l.flow) ≡ closed_all l.initial.self.all.items (going l.initial.flow)

abbrev pub decreases-loop-closing : goal.decreases-loop-closing
decreases-loop-closing l = length l.self.all.items
