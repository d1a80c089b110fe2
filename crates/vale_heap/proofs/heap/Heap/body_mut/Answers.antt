use Rattle.std.proofs.Common.{◌≡◌, sym, ◌∙◌, get_or, Some, None}
use Rattle.std.proofs.lemmas.List.{get_or_read}
use Rattle.vale_heap.specs.HeapState.{HeapState}
use Rattle.vale_heap.proofs.HeapLaws.{got_lt}
use Rattle.vale_heap.proofs.LayoutLaws.{laid_written}
use Rattle.vale_heap.proofs.StandLaws.{looked_seat}
use Rattle.vale_heap.proofs.heap.Heap.body_mut.Goals as goal

pub invariant_of-self-lent : goal.invariant_of-self-lent
invariant_of-self-lent c w =
    let h : HeapState = record { seats = c.self.inside.seats.items; regions = c.self.inside.regions; depth = c.self.inside.depth } in
    let found = looked_seat h c.args.at (rw (← c.self.view_is) at c.requires.there) in
    let within = got_lt h.seats c.args.at.frame found.0 found.2 in
    let read : get_or h.seats c.args.at.frame None ≡ Some c.seat_mut-seat.result.now = sym (get_or_read _ c.args.at.frame _ within c.index_mut.ensures.value None) ∙ c.seat_mut-seat.ensures.value in
    laid_written h c.self.inside.lists c.args.at.frame c.args.at.slot c.seat_mut-seat.result.now c.seat_body_mut.result.now w c.self.invariant c.requires.within read c.seat_body_mut.ensures.value
