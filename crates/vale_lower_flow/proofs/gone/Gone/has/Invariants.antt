use Rattle.std.proofs.Common.{◌≡◌, drop, []}
use Rattle.vale_lowering_objects.specs.Scopes.{is_gone}
use Rattle.vale_lower_flow.specs.Entries.{gone_over}
use Rattle.vale_lower_flow.proofs.gone.Gone.has.Given as goal

-- it is up to what is left of the list
abbrev pub invariant-loop-at : goal.invariant-loop-at
invariant-loop-at l = is_gone l.register (gone_over (drop l.at l.registers) []) ≡ is_gone l.register (gone_over l.registers [])
