use Rattle.std.proofs.Common.{sym, arith}
use Rattle.vale_heap.specs.HeapState.{innermost, LivesIn}
use Rattle.vale_heap.specs.declared.seat.Home.TheVariants.{Open}
use Rattle.vale_heap_rows.specs.LentHeap.{IsLent}
use Rattle.vale_heap_rows.proofs.lent_heap.Laws.{make_lent, made_lives, keep_kept}
use Rattle.vale_heap_rows.proofs.lent_heap.LentHeap.freeze_keep.Goals as goal

pub freeze_keep-requires-clause-root : goal.freeze_keep-requires-clause-root
freeze_keep-requires-clause-root c = made_lives c.args.self.heap c.make.new.self _ c.args.body c.in-Some._found.now c.in-Ok.root c.in-Ok.ensures.made (sym c.in-Some.ensures.value)

pub invariant_of-result : goal.invariant_of-result
invariant_of-result c =
    let lent : IsLent c.make.new.self c.make.new.lender c.args.self.freezes c.args.self.depth =
    make_lent c.args.self.heap c.make.new.self c.args.self.table c.make.new.lender c.args.self.freezes c.args.self.depth _ c.args.body c.make.result c.args.self.is_lent c.make.ensures.made c.make.ensures.refused c.make.ensures.still_known c.make.ensures.as_long c.make.ensures.frames in
    let lives : LivesIn c.make.new.self (Open (innermost c.make.new.self)) c.in-Ok.root = made_lives c.args.self.heap c.make.new.self _ c.args.body c.in-Some._found.now c.in-Ok.root c.in-Ok.ensures.made (sym c.in-Some.ensures.value) in
    record { is_kept = keep_kept c.make.new.self c.freeze_keep.new.self c.make.new.lender c.args.self.freezes c.args.self.depth c.in-Ok.root lent lives c.freeze_keep.ensures.after c.freeze_keep.ensures.keeps (omega (arith, c.if-freezes-eq0.false)) }
