use Rattle.vale_heap_rows.proofs.lent_heap.Laws.{end_lent}
use Rattle.vale_heap_rows.proofs.lent_heap.LentHeap.end.Goals as goal

pub invariant_of-self : goal.invariant_of-self
invariant_of-self c = record { is_lent = end_lent c.args.self.now.heap c.end.new.self c.args.self.now.table c.args.self.now.freezes c.args.self.now.depth c.args.self.now.is_lent c.end.ensures.keeps c.end.result c.args.at c.end.ensures.ended c.end.ensures.none }
