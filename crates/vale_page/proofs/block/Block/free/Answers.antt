use Rattle.vale_page.proofs.BlockLemmas.{freed}
use Rattle.vale_page.proofs.block.Block.free.Goals as goal

pub returns : goal.returns
returns g c =
    let done = c.put_link.ensures in
    freed c.args.self.now c.requires.0 c.args.slot c.args.generation c.put_link.new.self c.requires.1 c.requires.2 (record { at = done.0; cells = done.1 })
