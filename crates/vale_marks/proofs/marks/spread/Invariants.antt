use Rattle.vale_marks.specs.Ways.{AreSound}
use Rattle.vale_marks.proofs.marks.spread.Given as goal

-- no other kinds are marked
abbrev pub invariant-loop-n : goal.invariant-loop-n
invariant-loop-n l = AreSound l.fn.way l.code l.marks
