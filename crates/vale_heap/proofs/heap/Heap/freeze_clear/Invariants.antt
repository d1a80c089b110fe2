use Rattle.std.proofs.Common.{◌≡◌}
use Rattle.vale_heap.specs.declared.seat.Home.TheVariants.{Open}
use Rattle.vale_heap.specs.HeapState.{innermost}
use Rattle.vale_heap.proofs.RegionLaws.{pages_for}
use Rattle.vale_heap.proofs.WorldLaws.{IsClearing}
use Rattle.vale_heap.proofs.heap.Heap.freeze_clear.Given as goal

abbrev pub invariant-loop-frame : goal.invariant-loop-frame
invariant-loop-frame l = IsClearing l.initial.self l.self × (l.inner ≡ innermost l.initial.self)

abbrev pub decreases-loop-frame : goal.decreases-loop-frame
decreases-loop-frame l = pages_for (Open l.inner) l.self
