use Rattle.std.proofs.Common.{arith}
use Rattle.vale_heap_rows.proofs.lent_heap.Laws.{merge_lent}
use Rattle.vale_heap_rows.proofs.lent_heap.LentHeap.freeze_merge.Goals as goal

pub invariant_of-self : goal.invariant_of-self
invariant_of-self c = record { is_lent = merge_lent c.args.self.now.heap c.freeze_merge.new.self c.args.self.now.table c.args.self.now.freezes c.args.self.now.depth c.args.self.now.is_lent c.freeze_merge.ensures.keeps c.freeze_merge.ensures.after (omega (arith, c.if-self-eq0.false)) }
