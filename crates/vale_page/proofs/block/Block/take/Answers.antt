use Rattle.vale_page.proofs.BlockLemmas.{taken}
use Rattle.vale_page.proofs.block.Block.take.Goals as goal

pub returns : goal.returns
returns g c =
    let done = c.read.ensures in
    taken c.args.self.now c.requires.0 c.args.slot c.read.result c.read.new.self c.requires.1 done.value (record { at = done.cells.0; cells = done.cells.1 })
