use Rattle.std.proofs.Common.{◌≡◌, None, replicate}
use Rattle.vale_heap.proofs.lists.nowhere.Given as goal

abbrev pub invariant-loop-item : goal.invariant-loop-item
invariant-loop-item l = l.on.items ≡ replicate l._item None
