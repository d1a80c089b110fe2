use Rattle.std.proofs.Common.{length}
use Rattle.vale_heap_rows.proofs.call_lists.+all_given.Given as goal

abbrev pub decreases-all_given : goal.decreases-all_given
decreases-all_given l = length l.values.now
