use Rattle.std.proofs.Common.{◌≡◌, ◌<◌, ◌-◌, sym, ◌∙◌, ap, subst, arith}
use Rattle.vale_heap.specs.declared.seat.Home.TheVariants.{Open}
use Rattle.vale_heap.specs.HeapState.{HeapState, NoneFor, innermost}
use Rattle.vale_heap.specs.ListState.{ListState}
use Rattle.vale_heap.specs.Layout.{IsLaidOut}
use Rattle.vale_heap.proofs.LayoutLaws.{no_full, no_roomy, laid_closed}
use Rattle.vale_heap.proofs.RegionLaws.{heap_closed}
use Rattle.vale_heap.proofs.heap.Heap.close_region.Goals as goal

pub remove_last-requires-clause-none : goal.remove_last-requires-clause-none
remove_last-requires-clause-none c =
    let h : HeapState = record { seats = c.self.inside.seats.items; regions = c.self.inside.regions; depth = c.self.inside.depth } in
    let many : 1 < h.regions = rw (← c.self.view_is) at c.requires.many in
    let none : NoneFor (Open (innermost h)) h = rw (← c.self.view_is) at c.requires.none in
    no_full h c.self.inside.lists c.self.invariant many none

pub remove_last-requires-2-clause-none : goal.remove_last-requires-2-clause-none
remove_last-requires-2-clause-none c =
    let h : HeapState = record { seats = c.self.inside.seats.items; regions = c.self.inside.regions; depth = c.self.inside.depth } in
    let many : 1 < h.regions = rw (← c.self.view_is) at c.requires.many in
    let none : NoneFor (Open (innermost h)) h = rw (← c.self.view_is) at c.requires.none in
    rw c.remove_last.ensures (no_roomy h c.self.inside.lists c.self.invariant many none)

pub invariant_of-self : goal.invariant_of-self
invariant_of-self c =
    let h : HeapState = record { seats = c.self.inside.seats.items; regions = c.self.inside.regions; depth = c.self.inside.depth } in
    let l = c.self.inside.lists in
    let many : 1 < h.regions = rw (← c.self.view_is) at c.requires.many in
    let none : NoneFor (Open (innermost h)) h = rw (← c.self.view_is) at c.requires.none in
    let lists : c.remove_last-2.new.self ≡ record l { lists = l.lists - 2 } =
    c.remove_last-2.ensures ∙ ap (λ (s : ListState). record s { lists = s.lists - 1 }) c.remove_last.ensures ∙ ap (λ n. record l { lists = n }) (omega arith) in
    subst (IsLaidOut (record h { regions = innermost h })) (sym lists) (laid_closed h l c.self.invariant many (heap_closed h c.self.invariant.heap many none))

pub returns-clause-sound : goal.returns-clause-sound
returns-clause-sound c =
    let h : HeapState = record { seats = c.self.inside.seats.items; regions = c.self.inside.regions; depth = c.self.inside.depth } in
    let many : 1 < h.regions = rw (← c.self.view_is) at c.requires.many in
    let none : NoneFor (Open (innermost h)) h = rw (← c.self.view_is) at c.requires.none in
    heap_closed h c.self.invariant.heap many none
