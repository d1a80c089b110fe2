use Rattle.vale_object_passing.proofs.Passes.{AreBlank}
use Rattle.vale_object_passing.proofs.arguments.blank.Given as goal

-- the first registers hold nothing
abbrev pub invariant-loop-at : goal.invariant-loop-at
invariant-loop-at l = AreBlank l.at l.fn.registers l.registers
