use Rattle.std.proofs.Common.{◌≡◌, ◌≢◌, ◌<◌, ℕ, Some, length, ◌∙◌, ap, arith}
use Rattle.vale_heap.specs.HeapState.{HeapState, innermost}
use Rattle.vale_heap.specs.Layout.{roomy_list}
use Rattle.vale_heap.specs.ListState.{list_at}
use Rattle.vale_heap.proofs.LayoutLaws.{roomy_has_room, first_spare, no_room_law}
use Rattle.vale_heap.proofs.heap.Heap.find_room.Goals as goal

pub returns-in-Some-clause-some : goal.returns-in-Some-clause-some
returns-in-Some-clause-some c =
    let h : HeapState = record { seats = c.self.inside.seats.items; regions = c.self.inside.regions; depth = c.self.inside.depth } in
    let len : c.len-frames.result ≡ length c.self.inside.seats.items = omega (arith, c.len-frames.ensures, c.self.inside.seats.ok) in
    let list : c.roomy_list.result ≡ roomy_list (length c.self.inside.seats.items) (innermost h) = c.roomy_list.ensures ∙ ap (λ n. roomy_list n (innermost h)) len in
    let is : list_at c.self.inside.lists c.in-Some.frame ≡ Some (roomy_list (length c.self.inside.seats.items) (innermost h)) = c.in-Some.ensures.some.1 ∙ ap (λ n. Some n) list in
    rw (← c.self.view_is) (roomy_has_room h c.self.inside.lists c.self.invariant c.in-Some.frame (innermost h) c.in-Some.ensures.some.0 is)

pub returns-in-None-clause-some : goal.returns-in-None-clause-some
returns-in-None-clause-some c =
    let h : HeapState = record { seats = c.self.inside.seats.items; regions = c.self.inside.regions; depth = c.self.inside.depth } in
    let len : c.len-frames.result ≡ length c.self.inside.seats.items = omega (arith, c.len-frames.ensures, c.self.inside.seats.ok) in
    rw (← c.self.view_is) (first_spare h c.self.inside.lists c.self.invariant (innermost h) c.first-in-None.result (rw len at c.first-in-None.ensures.some))

pub returns-in-None-clause-none : goal.returns-in-None-clause-none
returns-in-None-clause-none c =
    let h : HeapState = record { seats = c.self.inside.seats.items; regions = c.self.inside.regions; depth = c.self.inside.depth } in
    let len : c.len-frames.result ≡ length c.self.inside.seats.items = omega (arith, c.len-frames.ensures, c.self.inside.seats.ok) in
    let list : c.roomy_list.result ≡ roomy_list (length c.self.inside.seats.items) (innermost h) = c.roomy_list.ensures ∙ ap (λ n. roomy_list n (innermost h)) len in
    let no_roomy : (frame : ℕ) → frame < length c.self.inside.lists.on → list_at c.self.inside.lists frame ≢ Some (roomy_list (length c.self.inside.seats.items) (innermost h)) = rw list at c.in-None.ensures.none in
    rw (← c.self.view_is) (no_room_law h c.self.inside.lists c.self.invariant (innermost h) c.first-in-None.result no_roomy (rw len at c.first-in-None.ensures.none))
