use Rattle.vale_heap.specs.HeapState.{HeapState, IsRoot}
use Rattle.vale_heap.proofs.LayoutLaws.{first_beside, none_beside_law}
use Rattle.vale_heap.proofs.heap.Heap.first_beside.Goals as goal

pub returns-clause-some : goal.returns-clause-some
returns-clause-some c =
    let h : HeapState = record { seats = c.self.inside.seats.items; regions = c.self.inside.regions; depth = c.self.inside.depth } in
    let root : IsRoot h c.args.iso = rw (← c.self.view_is) at c.requires in
    rw (← c.self.view_is) (first_beside h c.self.inside.lists c.self.invariant c.args.iso root c.first.result c.first.ensures.some)

pub returns-clause-none : goal.returns-clause-none
returns-clause-none c =
    let h : HeapState = record { seats = c.self.inside.seats.items; regions = c.self.inside.regions; depth = c.self.inside.depth } in
    rw (← c.self.view_is) (none_beside_law h c.self.inside.lists c.self.invariant c.args.iso c.first.result c.first.ensures.none)
