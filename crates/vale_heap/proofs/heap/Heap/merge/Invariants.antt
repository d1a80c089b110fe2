use Rattle.std.proofs.Common.{◌≡◌}
use Rattle.vale_heap.specs.declared.seat.Home.TheVariants.{Open, Kept}
use Rattle.vale_heap.specs.HeapState.{innermost}
use Rattle.vale_heap.proofs.RegionLaws.{IsMerging, pages_for}
use Rattle.vale_heap.proofs.heap.Heap.merge.Given as goal

abbrev pub invariant-loop-frame : goal.invariant-loop-frame
invariant-loop-frame l = IsMerging l.initial.self l.self l.iso × (l.to ≡ Open (innermost l.initial.self))

abbrev pub decreases-loop-frame : goal.decreases-loop-frame
decreases-loop-frame l = pages_for (Kept l.iso) l.self
