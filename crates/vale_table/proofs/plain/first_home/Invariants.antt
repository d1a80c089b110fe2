use Rattle.std.proofs.Common.{◌≡◌, ◌<◌, ◌≤◌, ℕ, get_or, None}
use Rattle.vale_table.proofs.plain.first_home.Given as goal

abbrev pub invariant-loop-frame : goal.invariant-loop-frame
invariant-loop-frame g l = (k : ℕ) → l.from ≤ k → k < l.frame → get_or l.pages k None ≡ None
