use Rattle.vale_object_steps.proofs.DropLaws.{kind_is, looks_living, slot_within}
use Rattle.vale_object_steps.proofs.drops.kind_at.Goals as goal

pub look-requires : goal.look-requires
look-requires c = slot_within c.args.heap.now c.args.place c.requires

pub unreachable-requires : goal.unreachable-requires
unreachable-requires c = looks_living c.args.heap.now c.args.place c.requires c.in-None.ensures.stands

pub returns : goal.returns
returns c = kind_is c.args.heap.now c.args.place c.in-Some.body.now c.in-Some.ensures.stands
