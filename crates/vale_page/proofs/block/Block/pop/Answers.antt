use Rattle.std.proofs.Common.{sym}
use Rattle.vale_page.proofs.BlockLemmas.{popped}
use Rattle.vale_page.proofs.ChainLemmas.{head_link}
use Rattle.vale_page.proofs.block.Block.pop.Goals as goal

pub take_link-self-requires : goal.take_link-self-requires
take_link-self-requires g c =
    let laid = c.requires.0.laid in
    (sym laid.bodies_at, head_link _ _ c.requires.1 c.requires.0.slots.chain)

pub returns : goal.returns
returns g c =
    let done = c.take_link-self.ensures in
    popped c.args.self.now c.requires.0 _ c.take_link-self.new.self c.requires.1 done.value (record { at = done.cells.0; cells = done.cells.1 })
