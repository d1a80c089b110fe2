use Rattle.std.proofs.Common.{◌<◌, length, arith}
use Rattle.vale_registers.proofs.Passes.{sharing_more}
use Rattle.vale_registers.proofs.passing.give.Goals as goal

pub loop-at-preserved : goal.loop-at-preserved
loop-at-preserved c =
    let lt : c.loop-at.at < length c.args.args.now = omega (arith, c.loop-at-test.true) in
    sharing_more c.args.base c.loop-at.at c.args.args.now c.args.row.now c.args.texts.now c.loop-at.to c.loop-at.texts _ c.share_cell.new.to c.share_cell.new.texts lt (c.requires.within c.loop-at.at lt) c.in_ok-share_cell.ensures c.loop-at.invariant
