use Rattle.vale_page.proofs.PageLemmas.{kept_put, put_shown, free_shown, room_left}
use Rattle.vale_page.proofs.page.Page.put.Goals as goal

pub put-slot-requires : goal.put-slot-requires
put-slot-requires g c = (c.self.invariant.block, room_left _ _ _ c.self.inside.block c.self.invariant (rw (← c.self.view_is) at c.requires))

pub invariant_of-self : goal.invariant_of-self
invariant_of-self g c = kept_put _ _ _ c.self.inside.block c.self.invariant c.put-slot.new.self c.put-slot.result c.args.body c.put-slot.ensures.0 c.put-slot.ensures.1

pub returns-clause-slot : goal.returns-clause-slot
returns-clause-slot g c = rw (← c.self.view_is) (free_shown _ c.self.inside.block c.self.invariant.block.slots c.put-slot.new.self c.put-slot.result c.args.body c.put-slot.ensures.1)

pub returns-clause-after : goal.returns-clause-after
returns-clause-after g c = rw (← c.self.view_is) (put_shown _ c.self.inside.block c.self.invariant.block.slots c.put-slot.new.self c.put-slot.result c.args.body c.put-slot.ensures.1)
