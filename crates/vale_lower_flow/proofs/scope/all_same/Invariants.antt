use Rattle.std.proofs.Common.{◌≡◌, drop}
use Rattle.vale_lower_flow.specs.Entries.{all_same, gone_of}
use Rattle.vale_lower_flow.proofs.scope.all_same.Given as goal

-- it is up to what is left of the list
abbrev pub invariant-loop-local : goal.invariant-loop-local
invariant-loop-local l = all_same (drop l.local-index l.locals) (gone_of l.one) (gone_of l.other) ≡ all_same l.locals (gone_of l.one) (gone_of l.other)
