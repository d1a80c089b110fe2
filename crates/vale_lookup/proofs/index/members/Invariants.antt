use Rattle.vale_lookup.proofs.IndexLaws.{Done}
use Rattle.vale_lookup.proofs.index.members.Given as goal

abbrev pub invariant-loop-item : goal.invariant-loop-item
invariant-loop-item l = Done l.items l.item-index l.members
