use Rattle.vale_heap.proofs.StandLaws.{looked_law}
use Rattle.vale_heap.proofs.heap.Heap.look.Goals as goal

pub returns-clause-stands : goal.returns-clause-stands
returns-clause-stands c = looked_law _ _ c.args.at _ c.find.ensures
