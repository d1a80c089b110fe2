use Rattle.vale_page.proofs.BlockLemmas.{renumbered}
use Rattle.vale_page.proofs.block.Block.reset.Goals as goal

pub returns : goal.returns
returns g c =
    let done = c.fill.ensures in
    renumbered c.args.self.now c.requires c.args.generation c.fill.new.self done.0 done.1
