use Rattle.std.proofs.Common.{◌≡◌, drop}
use Rattle.vale_cert.specs.Shape.{same_types}
use Rattle.vale_shape.proofs.shape.same_types.Given as goal

-- what is left decides
abbrev pub invariant-loop-a : goal.invariant-loop-a
invariant-loop-a l = same_types (drop l.a-index l.theirs) l.left ≡ same_types l.theirs l.ours
