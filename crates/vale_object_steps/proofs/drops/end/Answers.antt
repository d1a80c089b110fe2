use Rattle.vale_object_steps.proofs.DropLaws.{ends, finds_living, slot_within}
use Rattle.vale_object_steps.proofs.drops.end.Goals as goal

pub end-requires-clause-within : goal.end-requires-clause-within
end-requires-clause-within c = slot_within c.args.heap.now c.args.place c.requires.lives

pub unreachable-requires : goal.unreachable-requires
unreachable-requires c = finds_living c.args.heap.now c.args.place c.requires.lives c.in-None.ensures.found

pub returns-clause-ends : goal.returns-clause-ends
returns-clause-ends c = ends c.args.heap.now c.end.new.self c.args.place c.in-Some.body c.in-Some.ensures.found c.in-Some.ensures.stands c.in-Some.ensures.ended
