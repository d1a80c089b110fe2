use Rattle.std.proofs.Common.{◌≡◌, ◌<◌, sym, ◌∙◌, ap, get_or, None, length, subst}
use Rattle.std.specs.Option.{option_map}
use Rattle.std.proofs.lemmas.List.{get_or_read}
use Rattle.vale_heap.specs.HeapState.{HeapState, IsMovable, IsHeap, with_seat, with_home}
use Rattle.vale_heap.proofs.HeapLaws.{got_lt}
use Rattle.vale_heap.proofs.LayoutLaws.{relisted_law, relist_within}
use Rattle.vale_heap.proofs.heap.Heap.rehome.Goals as goal

pub relist-requires-clause-list : goal.relist-requires-clause-list
relist-requires-clause-list c =
    let h : HeapState = record { seats = c.self.inside.seats.items; regions = c.self.inside.regions; depth = c.self.inside.depth } in
    let can : IsMovable h c.args.frame c.args.to = rw (← c.self.view_is) at c.requires in
    let within : c.args.frame < length h.seats = got_lt h.seats c.args.frame can.seat can.there in
    let read : get_or h.seats c.args.frame None ≡ c.index_mut.result.now = sym (get_or_read _ c.args.frame _ within c.index_mut.ensures.value None) in
    let is : c.set_home.new.seat ≡ option_map (with_home c.args.to) (get_or h.seats c.args.frame None) = c.set_home.ensures ∙ ap (option_map (with_home c.args.to)) (sym read) in
    let heap : IsHeap (with_seat h c.args.frame c.set_home.new.seat) = subst (λ o. IsHeap (with_seat h c.args.frame o)) (sym is) can.heap in
    relist_within h c.self.inside.lists c.args.frame c.set_home.new.seat c.deref.result.now c.self.invariant within heap c.deref.ensures.value

pub invariant_of-self : goal.invariant_of-self
invariant_of-self c =
    let h : HeapState = record { seats = c.self.inside.seats.items; regions = c.self.inside.regions; depth = c.self.inside.depth } in
    let can : IsMovable h c.args.frame c.args.to = rw (← c.self.view_is) at c.requires in
    let within : c.args.frame < length h.seats = got_lt h.seats c.args.frame can.seat can.there in
    let read : get_or h.seats c.args.frame None ≡ c.index_mut.result.now = sym (get_or_read _ c.args.frame _ within c.index_mut.ensures.value None) in
    let is : c.set_home.new.seat ≡ option_map (with_home c.args.to) (get_or h.seats c.args.frame None) = c.set_home.ensures ∙ ap (option_map (with_home c.args.to)) (sym read) in
    let heap : IsHeap (with_seat h c.args.frame c.set_home.new.seat) = subst (λ o. IsHeap (with_seat h c.args.frame o)) (sym is) can.heap in
    relisted_law h c.self.inside.lists c.relist.new.lists c.args.frame c.set_home.new.seat c.deref.result.now c.self.invariant within heap c.deref.ensures.value c.relist.ensures
