use Rattle.std.proofs.Common.{◌≡◌, ℕ, ◌<◌}
use Rattle.std.specs.Prelude.{slice_get}
use Rattle.vale_cert.specs.Types.{marked}
use Rattle.vale_marks.specs.Ways.{has_leads}
use Rattle.vale_marks.proofs.ways.turn_kinds.Given as goal

-- the marks so far
abbrev pub invariant-loop-n : goal.invariant-loop-n
invariant-loop-n l = (m : ℕ) → m < l.n → marked l.next m ≡ has_leads l.fn.way (marked l.marks) (slice_get l.code.kinds m)
