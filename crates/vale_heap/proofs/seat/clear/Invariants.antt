use Rattle.vale_heap.proofs.ClearLaws.{IsEmptiedTo}
use Rattle.vale_heap.proofs.seat.clear.Given as goal

abbrev pub invariant-loop-slot : goal.invariant-loop-slot
invariant-loop-slot l = IsEmptiedTo l.initial.page l.page l.slot
