use Rattle.vale_object_passing.proofs.Passes.{AreGiving}
use Rattle.vale_object_passing.proofs.arguments.give_all.Given as goal

-- the first parameters have what they get
abbrev pub invariant-loop-at : goal.invariant-loop-at
invariant-loop-at l = AreGiving l.base l.first l.at l.types l.args l.fn.frame l.fn.texts l.frame l.own l.texts
