use Rattle.vale_page.proofs.BlockLemmas.{extended}
use Rattle.vale_page.proofs.block.Block.extend.Goals as goal

pub returns : goal.returns
returns g c =
    let done = c.write.ensures in
    extended c.args.self.now c.requires.0 c.write.new.self c.requires.1 (record { at = done.0; cells = done.1 })
