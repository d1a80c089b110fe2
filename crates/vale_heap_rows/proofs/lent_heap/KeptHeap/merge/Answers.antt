use Rattle.vale_heap_rows.proofs.lent_heap.Laws.{join_lent}
use Rattle.vale_heap_rows.proofs.lent_heap.KeptHeap.merge.Goals as goal

pub invariant_of-result : goal.invariant_of-result
invariant_of-result c = record { is_lent = join_lent c.args.self.heap c.merge.new.self c.args.self.table c.args.self.freezes c.args.self.depth c.args.self.root c.args.self.is_kept c.merge.ensures.after c.merge.ensures.keeps }
