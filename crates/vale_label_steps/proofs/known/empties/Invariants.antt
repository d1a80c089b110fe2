use Rattle.std.proofs.Common.{◌≡◌}
use Rattle.vale_label_steps.specs.Filling.{nothing_known}
use Rattle.vale_label_steps.proofs.known.empties.Given as goal

abbrev pub invariant-loop-at : goal.invariant-loop-at
invariant-loop-at l = l.facts.items ≡ nothing_known l.at
