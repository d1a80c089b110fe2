use Rattle.std.proofs.Common.{◌≡◌, ◌<◌, sym, ◌∙◌, get_or, Some, None, length, subst}
use Rattle.std.proofs.lemmas.List.{get_or_read}
use Rattle.vale_heap.specs.declared.seat.Home.TheVariants.{Open}
use Rattle.vale_heap.specs.HeapState.{HeapState, IsFor, IsHeap, ClearsSeat, seat_at, innermost, with_seat}
use Rattle.vale_heap.proofs.HeapLaws.{got_lt}
use Rattle.vale_heap.proofs.LayoutLaws.{relisted_law}
use Rattle.vale_heap.proofs.WorldLaws.{heap_cleared}
use Rattle.vale_heap.proofs.heap.Heap.clear_page.Goals as goal

pub invariant_of-self : goal.invariant_of-self
invariant_of-self c =
    let h : HeapState = record { seats = c.self.inside.seats.items; regions = c.self.inside.regions; depth = c.self.inside.depth } in
    let frame = c.args.frame in
    let is : IsFor (Open (innermost h)) (seat_at h frame) = rw (← c.self.view_is) at c.requires in
    let within : frame < length h.seats = got_lt h.seats frame is.0 is.1 in
    let read : get_or h.seats frame None ≡ c.index_mut.result.now = sym (get_or_read _ frame _ within c.index_mut.ensures.value None) in
    let clears : ClearsSeat (Some is.0) c.clear_in.new.seat = subst (λ o. ClearsSeat o c.clear_in.new.seat) (sym read ∙ is.1) c.clear_in.ensures in
    let heap : IsHeap (with_seat h frame c.clear_in.new.seat) = subst (λ o. IsHeap (with_seat h frame o)) (sym clears.1) (heap_cleared h frame (innermost h) clears.0 is c.self.invariant.heap clears.2) in
    relisted_law h c.self.inside.lists c.relist.new.lists frame c.clear_in.new.seat c.deref.result.now c.self.invariant within heap c.deref.ensures.value c.relist.ensures
