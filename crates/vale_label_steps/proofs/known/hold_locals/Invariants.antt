use Rattle.std.proofs.Common.{◌≡◌, drop}
use Rattle.vale_label_steps.specs.Filling.{locals_known}
use Rattle.vale_label_steps.proofs.known.hold_locals.Given as goal

abbrev pub invariant-loop-local : goal.invariant-loop-local
invariant-loop-local l = locals_known (drop l.local-index l.locals) l.facts.items ≡ locals_known l.locals l.initial.facts.items
