use Rattle.vale_registers.proofs.Passes.{AreSharing}
use Rattle.vale_registers.proofs.passing.give.Given as goal

-- the first registers have what they get
abbrev pub invariant-loop-at : goal.invariant-loop-at
invariant-loop-at l = AreSharing l.base l.at l.args l.row l.fn.texts l.to l.texts
