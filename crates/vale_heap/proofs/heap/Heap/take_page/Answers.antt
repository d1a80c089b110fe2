use Rattle.std.proofs.Common.{◌≡◌, ◌<◌, sym, ◌∙◌, ap, subst, None, Some, Option, length}
use Rattle.vale_page.specs.PageState.{IsBlankAt}
use Rattle.vale_heap.specs.declared.seat.Seat.{Seat}
use Rattle.vale_heap.specs.declared.seat.Home.TheVariants.{Spare}
use Rattle.vale_heap.specs.HeapState.{HeapState, IsHeap, seat_at, with_seat}
use Rattle.vale_heap.proofs.HeapLaws.{heap_spare}
use Rattle.vale_heap.proofs.LayoutLaws.{relisted_law}
use Rattle.vale_heap.proofs.heap.Heap.take_page.Goals as goal

pub invariant_of-self : goal.invariant_of-self
invariant_of-self c =
    let h : HeapState = record { seats = c.self.inside.seats.items; regions = c.self.inside.regions; depth = c.self.inside.depth } in
    let frame = c.frame-frame.result in
    let seat : Option Seat = Some (record { page = c.args.page; home = Spare }) in
    let within : frame < length h.seats = subst (λ n. n < length h.seats) (sym c.frame-frame.ensures) (rw (← c.self.view_is) at c.requires.within) in
    let none : seat_at h frame ≡ None = ap (seat_at h) c.frame-frame.ensures ∙ (rw (← c.self.view_is) at c.requires.none) in
    let blank : IsBlankAt c.args.page frame c.requires.blank.0 = rw c.frame-frame.ensures c.requires.blank.1 in
    let heap : IsHeap (with_seat h frame seat) = heap_spare h frame c.requires.blank.0 c.args.page c.self.invariant.heap within none blank in
    relisted_law h c.self.inside.lists c.relist.new.lists frame seat c.deref.result.now c.self.invariant within heap c.deref.ensures.value c.relist.ensures
