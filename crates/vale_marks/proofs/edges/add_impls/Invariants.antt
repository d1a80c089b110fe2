use Rattle.std.specs.List.{All}
use Rattle.vale_marks.specs.Ways.{IsEdge}
use Rattle.vale_marks.specs.declared.way.Way.TheVariants.{Any}
use Rattle.vale_marks.proofs.edges.add_impls.Given as goal

abbrev pub invariant-loop-item : goal.invariant-loop-item
invariant-loop-item l = All (IsEdge Any l.code) l.edges.items
