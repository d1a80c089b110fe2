use Rattle.std.proofs.Common.{◌≡◌, None, replicate}
use Rattle.vale_heap.proofs.heap.no_seats.Given as goal

abbrev pub invariant-loop-frame : goal.invariant-loop-frame
invariant-loop-frame l = l.seats.items ≡ replicate l._frame None
