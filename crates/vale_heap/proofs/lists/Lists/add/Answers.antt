use Rattle.std.proofs.Common.{◌≡◌, ◌+◌, ◌<◌, [], ◌∷◌, ◌++◌, length, ◌∙◌, arith, ap}
use Rattle.vale_heap.proofs.ListLaws.{more_ringed}
use Rattle.vale_heap.proofs.lists.Lists.add.Goals as goal

pub invariant_of-self : goal.invariant_of-self
invariant_of-self c =
    let ring = c.self.invariant.0 in
    let room = c.self.invariant.1 in
    let fits : c.self.inside.lists < c.self.inside.most = rw (← c.self.view_is) at c.requires in
    let head : c.len-head.result ≡ length c.self.inside.on.items + c.self.inside.lists = omega (arith, c.len-head.ensures, c.self.inside.next.ok, ring.nexts) in
    let next : c.push.new.self.items ≡ c.self.inside.next.items ++ (length c.self.inside.on.items + c.self.inside.lists) ∷ [] = c.in-Ok.ensures.items ∙ ap (λ n. c.self.inside.next.items ++ n ∷ []) head in
    let previous : c.push-2.new.self.items ≡ c.self.inside.previous.items ++ (length c.self.inside.on.items + c.self.inside.lists) ∷ [] = c.in-Ok-push.ensures.items ∙ ap (λ n. c.self.inside.previous.items ++ n ∷ []) head in (
      rw (next, previous) (more_ringed c.self.inside.next.items c.self.inside.previous.items c.self.inside.on.items c.self.inside.lists ring),
      record {
        few = omega (arith, fits);
        next = omega (arith, room.next, c.in-Ok.ensures.capacity);
        previous = omega (arith, room.previous, c.in-Ok-push.ensures.capacity);
      },
    )
