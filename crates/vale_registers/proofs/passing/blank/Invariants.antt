use Rattle.vale_registers.proofs.Passes.{AreBlank}
use Rattle.vale_registers.proofs.passing.blank.Given as goal

-- the first registers hold nothing
abbrev pub invariant-loop-at : goal.invariant-loop-at
invariant-loop-at l = AreBlank l.at l.fn.cells l.cells
