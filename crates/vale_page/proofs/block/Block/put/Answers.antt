use Rattle.vale_page.proofs.BlockLemmas.{filled}
use Rattle.vale_page.proofs.block.Block.put.Goals as goal

pub returns : goal.returns
returns g c =
    let done = c.write.ensures in
    filled c.claim-slot.new.self c.claim-slot.ensures.0 c.args.self.now c.claim-slot.result c.args.body c.write.new.self c.requires.0.slots.values c.claim-slot.ensures.1 (record { at = done.0; cells = done.1 })
