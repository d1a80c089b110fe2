use Rattle.vale_heap.proofs.LayoutLaws.{open_laid}
use Rattle.vale_heap.proofs.heap.Heap.open.Goals as goal

pub invariant_of-result : goal.invariant_of-result
invariant_of-result c = rw (c.in_ok-seats.ensures, c.in_ok-open.ensures, c.max.ensures) (open_laid c.args.frames c.args.depth c.ranges.frames.fits)
