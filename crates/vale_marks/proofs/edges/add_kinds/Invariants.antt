use Rattle.std.specs.List.{All}
use Rattle.vale_marks.specs.Ways.{IsEdge}
use Rattle.vale_marks.proofs.edges.add_kinds.Given as goal

abbrev pub invariant-loop-n : goal.invariant-loop-n
invariant-loop-n l = All (IsEdge l.fn.way l.code) l.edges.items
