use Rattle.vale_marks.specs.Ways.{AreSound}
use Rattle.vale_marks.proofs.marks.spread_along.Given as goal

-- no other kinds are marked
abbrev pub invariant-loop-edge : goal.invariant-loop-edge
invariant-loop-edge l = AreSound l.fn.way l.code l.marks
