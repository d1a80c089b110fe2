use Rattle.std.proofs.Common.{◌≡◌, ◌<◌, ℕ, None, Option, set, length, arith}
use Rattle.std.proofs.lemmas.List.{length-set, get_or_read}
use Rattle.vale_heap.specs.ListState.{IsRinged}
use Rattle.vale_heap.proofs.ListLaws.{at, left_ringed}
use Rattle.vale_heap.proofs.lists.Lists.take_off.Goals as goal

pub invariant_of-self : goal.invariant_of-self
invariant_of-self c =
    let ring = c.self.invariant.0 in
    let room = c.self.invariant.1 in
    let on = c.self.inside.on.items in
    let none : Option ℕ = None in
    let within : c.args.item < length on = rw (← c.self.view_is) at c.requires in
    let read : c.index-before.result.now ≡ at c.self.inside.previous.items c.args.item = get_or_read _ c.args.item _ (omega (arith, within, ring.previouses)) c.index-before.ensures 0 in
    let ringed : IsRinged c.splice.new.next.items c.splice.new.previous.items (set on c.args.item None) c.self.inside.lists =
    rw (c.splice.ensures.next, c.splice.ensures.previous, read) (left_ringed c.self.inside.next.items c.self.inside.previous.items on c.self.inside.lists c.args.item ring within) in (
      ringed,
      record {
        few = room.few;
        next = omega (arith, room.next, c.splice.ensures.next_room, length-set on c.args.item none);
        previous = omega (arith, room.previous, c.splice.ensures.previous_room, length-set on c.args.item none);
      },
    )
