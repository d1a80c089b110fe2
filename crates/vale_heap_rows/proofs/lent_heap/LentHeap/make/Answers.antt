use Rattle.vale_heap_rows.proofs.lent_heap.Laws.{make_lent}
use Rattle.vale_heap_rows.proofs.lent_heap.LentHeap.make.Goals as goal

pub invariant_of-self : goal.invariant_of-self
invariant_of-self c = record { is_lent = make_lent c.args.self.now.heap c.make.new.self c.args.self.now.table c.make.new.lender c.args.self.now.freezes c.args.self.now.depth _ c.args.body c.make.result c.args.self.now.is_lent c.make.ensures.made c.make.ensures.refused c.make.ensures.still_known c.make.ensures.as_long c.make.ensures.frames }
