use Rattle.vale_lookup.proofs.IndexLaws.{one_more, all_done}
use Rattle.vale_lookup.proofs.index.members.Goals as goal

pub loop-item-preserved : goal.loop-item-preserved
loop-item-preserved c =
    rw c.in_ok-push.ensures.ok (one_more c.args.items.now c.loop-item.item-index c.item-item.result c.loop-item.members c.in_ok-member_places.field-0 c.loop-item-test.true c.item-item.is c.in_ok-member_places.ensures c.loop-item.invariant)

pub returns : goal.returns
returns c = all_done c.args.items.now c.loop-item.item-index c.loop-item.members c.loop-item-test.false c.loop-item.invariant
