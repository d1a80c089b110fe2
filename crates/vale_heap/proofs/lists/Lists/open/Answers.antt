use Rattle.std.proofs.Common.{◌≡◌, ℕ, None, Option, length, ◌∙◌, arith, ap}
use Rattle.std.proofs.lemmas.List.{length-replicate}
use Rattle.vale_heap.proofs.ListLaws.{open_ringed}
use Rattle.vale_heap.proofs.lists.Lists.open.Goals as goal

pub invariant_of-result : goal.invariant_of-result
invariant_of-result c =
    let none : Option ℕ = None in
    let on = c.in_ok-on.ensures in
    let many : length c.in_ok-on.on.items ≡ c.args.items = ap length on ∙ length-replicate c.args.items none in (
      rw on (open_ringed c.in_ok-next.next.items c.in_ok-previous.previous.items c.args.items c.args.lists c.in_ok-next.ensures.each c.in_ok-previous.ensures.each c.in_ok-next.ensures.many c.in_ok-previous.ensures.many),
      record {
        few = c.requires.few;
        next = omega (arith, many, c.in_ok-next.ensures.room);
        previous = omega (arith, many, c.in_ok-previous.ensures.room);
      },
    )
