use Rattle.std.specs.List.{All}
use Rattle.vale_marks.specs.Ways.{IsEdge}
use Rattle.vale_marks.specs.declared.way.Way.TheVariants.{Any}
use Rattle.vale_marks.proofs.edges.add_fields.Given as goal

abbrev pub invariant-loop-field : goal.invariant-loop-field
invariant-loop-field l = All (IsEdge Any l.code) l.edges.items
