use Rattle.std.proofs.Common.{◌≡◌, ℕ, length, true}
use Rattle.vale_cert.specs.Types.{marked}
use Rattle.vale_marks.specs.Ways.{AreSound, leads_within}
use Rattle.vale_marks.proofs.marks.marks_of.Given as goal

-- at least what so many rounds find is marked, and nothing but what any do
abbrev pub invariant-loop-turn : goal.invariant-loop-turn
invariant-loop-turn l = record {
  count : l.count ≡ length l.code.kinds;
  marks : length l.marks.items ≡ length l.code.kinds;
  next : length l.next.items ≡ length l.code.kinds;
  sound : AreSound l.fn.way l.code l.marks.items;
  within : (n : ℕ) → leads_within l.fn.way l.code l._turn n ≡ true → marked l.marks.items n ≡ true;
}
