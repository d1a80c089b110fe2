use Rattle.std.proofs.Common.{◌≡◌, ◌<◌, ◌+◌, sym, refl, ◌∙◌, ap, subst, arith}
use Rattle.vale_heap.specs.HeapState.{HeapState, with_region}
use Rattle.vale_heap.specs.ListState.{ListState}
use Rattle.vale_heap.specs.Layout.{IsLaidOut}
use Rattle.vale_heap.proofs.LayoutLaws.{laid_opened}
use Rattle.vale_heap.proofs.RegionLaws.{heap_opened}
use Rattle.vale_heap.proofs.WorldLaws.{opened_law, opened_keeps}
use Rattle.vale_heap.proofs.heap.Heap.freeze_in.Goals as goal

pub invariant_of-self : goal.invariant_of-self
invariant_of-self c =
    let h : HeapState = record { seats = c.self.inside.seats.items; regions = c.self.inside.regions; depth = c.self.inside.depth } in
    let l = c.self.inside.lists in
    let within : h.regions < h.depth = rw (← c.self.view_is) at c.requires in
    let lists : c.add-2.new.self ≡ record l { lists = l.lists + 2 } =
    c.add-2.ensures ∙ ap (λ (s : ListState). record s { lists = s.lists + 1 }) c.add.ensures ∙ ap (λ n. record l { lists = n }) (omega arith) in
    subst (IsLaidOut (with_region h)) (sym lists) (laid_opened h l c.self.invariant (heap_opened h c.self.invariant.heap within))

pub returns-clause-stands : goal.returns-clause-stands
returns-clause-stands c =
    let h : HeapState = record { seats = c.self.inside.seats.items; regions = c.self.inside.regions; depth = c.self.inside.depth } in
    let within : h.regions < h.depth = rw (← c.self.view_is) at c.requires in
    rw (← c.self.view_is) (opened_law h (with_region h) (heap_opened h c.self.invariant.heap within) refl)

pub returns-clause-keeps : goal.returns-clause-keeps
returns-clause-keeps c = rw (← c.self.view_is) (opened_keeps (record { seats = c.self.inside.seats.items; regions = c.self.inside.regions; depth = c.self.inside.depth }) _ refl)
