use Rattle.std.proofs.Common.{◌≡◌, ◌≢◌, ◌-◌, ◌<◌, ℕ, Some, None, get_or, take, length, ◌∙◌, arith, ap}
use Rattle.vale_heap.proofs.ListLaws.{less_ringed}
use Rattle.vale_heap.proofs.lists.Lists.remove_last.Goals as goal

pub invariant_of-self : goal.invariant_of-self
invariant_of-self c =
    let ring = c.self.invariant.0 in
    let room = c.self.invariant.1 in
    let some : 0 < c.self.inside.lists = rw (← c.self.view_is) at c.requires.some in
    let none : (item : ℕ) → item < length c.self.inside.on.items → get_or c.self.inside.on.items item None ≢ Some (c.self.inside.lists - 1) = rw (← c.self.view_is) at c.requires.none in
    let next : c.pop-head.new.self.items ≡ take (length c.self.inside.next.items - 1) c.self.inside.next.items = c.pop-head.ensures.rest ∙ ap (λ n. take (n - 1) c.self.inside.next.items) c.self.inside.next.ok.0 in
    let previous : c.pop-head-2.new.self.items ≡ take (length c.self.inside.previous.items - 1) c.self.inside.previous.items = c.pop-head-2.ensures.rest ∙ ap (λ n. take (n - 1) c.self.inside.previous.items) c.self.inside.previous.ok.0 in (
      rw (next, previous) (less_ringed c.self.inside.next.items c.self.inside.previous.items c.self.inside.on.items c.self.inside.lists ring some none),
      record {
        few = omega (arith, room.few);
        next = omega (arith, room.next, c.pop-head.ensures.capacity);
        previous = omega (arith, room.previous, c.pop-head-2.ensures.capacity);
      },
    )
