use Rattle.std.proofs.Common.{◌≡◌, ◌<◌, ◌-◌, sym, ◌∙◌, get_or, subst, ap, None, length, arith}
use Rattle.std.proofs.lemmas.List.{get_or_read}
use Rattle.vale_heap.specs.HeapState.{HeapState, IsHeap, with_seat}
use Rattle.vale_heap.specs.Layout.{list_for}
use Rattle.vale_heap.proofs.HeapLaws.{heap_with_seat, can_put}
use Rattle.vale_heap.proofs.LayoutLaws.{listed_law, list_there, laid_same, room_lt}
use Rattle.vale_heap.proofs.heap.Heap.put_at.Goals as goal

pub move_to-requires-clause-list : goal.move_to-requires-clause-list
move_to-requires-clause-list c =
    let h : HeapState = record { seats = c.self.inside.seats.items; regions = c.self.inside.regions; depth = c.self.inside.depth } in
    let puts = c.put_in-moves.ensures.put in
    let within : c.args.frame < length h.seats = room_lt h.seats (h.regions - 1) c.args.frame (rw (← c.self.view_is) at c.requires) in
    let read : get_or h.seats c.args.frame None ≡ c.index_mut-seat.result.now = sym (get_or_read _ c.args.frame _ within c.index_mut-seat.ensures.value None) in
    let heap : IsHeap (with_seat h c.args.frame c.put_in-moves.new.seat) =
    subst (λ o. IsHeap (with_seat h c.args.frame o)) (sym puts.now) (heap_with_seat h c.args.frame _ (can_put h c.args.frame c.put_in-moves.result.0.slot puts.seat c.args.body c.self.invariant.heap (read ∙ puts.was) puts.serving puts.free)) in
    let many : c.len-frames.result ≡ length h.seats = omega (arith, c.len-frames.ensures, c.self.inside.seats.ok) in
    list_there h c.self.inside.lists c.args.frame c.len-frames.result c.put_in-moves.new.seat c.list_for.result c.self.invariant within heap many c.list_for.ensures

pub invariant_of-self : goal.invariant_of-self
invariant_of-self c =
    let h : HeapState = record { seats = c.self.inside.seats.items; regions = c.self.inside.regions; depth = c.self.inside.depth } in
    let puts = c.put_in-moves.ensures.put in
    let within : c.args.frame < length h.seats = room_lt h.seats (h.regions - 1) c.args.frame (rw (← c.self.view_is) at c.requires) in
    let read : get_or h.seats c.args.frame None ≡ c.index_mut-seat.result.now = sym (get_or_read _ c.args.frame _ within c.index_mut-seat.ensures.value None) in
    let heap : IsHeap (with_seat h c.args.frame c.put_in-moves.new.seat) =
    subst (λ o. IsHeap (with_seat h c.args.frame o)) (sym puts.now) (heap_with_seat h c.args.frame _ (can_put h c.args.frame c.put_in-moves.result.0.slot puts.seat c.args.body c.self.invariant.heap (read ∙ puts.was) puts.serving puts.free)) in
    let many : c.len-frames.result ≡ length h.seats = omega (arith, c.len-frames.ensures, c.self.inside.seats.ok) in
    listed_law h c.self.inside.lists c.move_to.new.self c.args.frame c.len-frames.result c.put_in-moves.new.seat c.list_for.result c.self.invariant within heap many c.list_for.ensures c.move_to.ensures

pub invariant_of-self-else-moves : goal.invariant_of-self-else-moves
invariant_of-self-else-moves c =
    let h : HeapState = record { seats = c.self.inside.seats.items; regions = c.self.inside.regions; depth = c.self.inside.depth } in
    let puts = c.put_in-moves.ensures.put in
    let within : c.args.frame < length h.seats = room_lt h.seats (h.regions - 1) c.args.frame (rw (← c.self.view_is) at c.requires) in
    let read : get_or h.seats c.args.frame None ≡ c.index_mut-seat.result.now = sym (get_or_read _ c.args.frame _ within c.index_mut-seat.ensures.value None) in
    let heap : IsHeap (with_seat h c.args.frame c.put_in-moves.new.seat) =
    subst (λ o. IsHeap (with_seat h c.args.frame o)) (sym puts.now) (heap_with_seat h c.args.frame _ (can_put h c.args.frame c.put_in-moves.result.0.slot puts.seat c.args.body c.self.invariant.heap (read ∙ puts.was) puts.serving puts.free)) in
    laid_same h c.self.inside.lists c.args.frame c.put_in-moves.new.seat c.self.invariant within heap (c.put_in-moves.ensures.stays c.if-moves.false (length h.seats) c.args.frame ∙ ap (list_for (length h.seats) c.args.frame) (sym read))
