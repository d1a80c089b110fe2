use Rattle.std.proofs.Common.{length}
use Rattle.vale_heap_rows.proofs.call_lists.+all_after.Given as goal

abbrev pub decreases-all_after : goal.decreases-all_after
decreases-all_after l = length l.calls.now
