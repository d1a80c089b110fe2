use Rattle.std.proofs.Common.{◌≡◌, ℕ, ◌<◌, get_or, false}
use Rattle.vale_marks.proofs.marks.same_marks.Given as goal

-- the marks so far are the same
abbrev pub invariant-loop-n : goal.invariant-loop-n
invariant-loop-n l = (k : ℕ) → k < l.n → get_or l.next k false ≡ get_or l.marks k false
