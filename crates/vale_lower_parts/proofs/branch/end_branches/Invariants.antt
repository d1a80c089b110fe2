use Rattle.std.proofs.Common.{◌≡◌, length}
use Rattle.vale_lower_flow.specs.Entries.{entries, gone_of}
use Rattle.vale_lower_flow.specs.Flow.{going}
use Rattle.vale_lower_parts.specs.Branches.{branches_ended}
use Rattle.vale_lower_parts.proofs.branch.end_branches.Given as goal

-- those that are left, after what was ended
abbrev pub invariant-loop-branch : goal.invariant-loop-branch
invariant-loop-branch l = branches_ended l.branches.items l.h (entries l.scope) (gone_of l.before) (going l.flow) ≡ branches_ended l.initial.branches.items l.h (entries l.scope) (gone_of l.before) (going l.initial.flow)

abbrev pub decreases-loop-branch : goal.decreases-loop-branch
decreases-loop-branch l = length l.branches.items
