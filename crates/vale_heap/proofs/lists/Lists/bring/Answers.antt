use Rattle.std.proofs.Common.{◌≡◌, ◌<◌, ◌+◌, Some, length, ap, ◌∙◌, arith}
use Rattle.std.proofs.lemmas.List.{length-set, with_items_is}
use Rattle.vale_heap.specs.ListState.{unlinked_next, unlinked_previous, linked_next, linked_previous}
use Rattle.vale_heap.proofs.ListLaws.{moved_first_within, moved_ringed}
use Rattle.vale_heap.proofs.lists.Lists.bring.Goals as goal

pub relink-requires-clause-first : goal.relink-requires-clause-first
relink-requires-clause-first c =
    let on = c.self.inside.on.items in
    let within : c.args.item < length on = rw (← c.self.view_is) at c.requires.item in
    let fits : c.args.list < c.self.inside.lists = rw (← c.self.view_is) at c.requires.list in
    let len : c.len.result ≡ length on = omega (arith, c.len.ensures, c.self.inside.on.ok) in
    rw (c.deref_mut.ensures.value, c.deref_mut-2.ensures.value, len) (moved_first_within c.self.inside.next.items c.self.inside.previous.items on c.self.inside.lists c.args.item c.args.list c.self.invariant.0 within fits)

pub invariant_of-self : goal.invariant_of-self
invariant_of-self c =
    let ring = c.self.invariant.0 in
    let room = c.self.invariant.1 in
    let on = c.self.inside.on.items in
    let item = c.args.item in
    let within : item < length on = rw (← c.self.view_is) at c.requires.item in
    let fits : c.args.list < c.self.inside.lists = rw (← c.self.view_is) at c.requires.list in
    let len : c.len.result ≡ length on = omega (arith, c.len.ensures, c.self.inside.on.ok) in
    let cut_next = unlinked_next c.self.inside.next.items c.self.inside.previous.items item in
    let cut_previous = unlinked_previous c.self.inside.next.items c.self.inside.previous.items item in
    let next : c.relink.new.next ≡ linked_next cut_next item (length on + c.args.list) = rw (c.deref_mut.ensures.value, c.deref_mut-2.ensures.value, len) at c.relink.ensures.next in
    let previous : c.relink.new.previous ≡ linked_previous cut_next cut_previous item (length on + c.args.list) = rw (c.deref_mut.ensures.value, c.deref_mut-2.ensures.value, len) at c.relink.ensures.previous in
    let ringed = moved_ringed c.self.inside.next.items c.self.inside.previous.items on c.self.inside.lists item c.args.list ring within fits in
    let many = length-set on item (Some c.args.list) in
    let next_items = with_items_is c.self.inside.next c.relink.new.next (omega (arith, ap length next, ringed.nexts, ring.nexts, many, c.self.inside.next.ok.0)) ∙ next in
    let previous_items = with_items_is c.self.inside.previous c.relink.new.previous (omega (arith, ap length previous, ringed.previouses, ring.previouses, many, c.self.inside.previous.ok.0)) ∙ previous in (
      rw (next_items, previous_items) ringed,
      record {
        few = room.few;
        next = omega (arith, room.next, many);
        previous = omega (arith, room.previous, many);
      },
    )
