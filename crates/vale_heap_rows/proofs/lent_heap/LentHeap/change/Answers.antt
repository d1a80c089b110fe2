use Rattle.vale_heap_rows.proofs.lent_heap.Laws.{change_lent}
use Rattle.vale_heap_rows.proofs.lent_heap.LentHeap.change.Goals as goal

pub invariant_of-self : goal.invariant_of-self
invariant_of-self c =
    record { is_lent = change_lent c.args.self.now.heap c.args.self.now.table c.args.self.now.freezes c.args.self.now.depth c.args.at (record { kind = c.in-Some.body.now.kind; cells = c.args.cells }) c.args.self.now.is_lent (c.in-Some.ensures.keeps (record { kind = c.in-Some.body.now.kind; cells = c.args.cells })) }
