use Rattle.std.proofs.Common.{arith}
use Rattle.vale_listing.proofs.LabelLaws.{past_rises, next_line}
use Rattle.vale_listing.proofs.lines.push_body.Goals as goal

pub loop-instr-preserved : goal.loop-instr-preserved
loop-instr-preserved c = record {
  at = omega (arith, c.loop-instr.invariant.at);
  rises = rw c.in_ok-left.ensures.left (past_rises c.loop-instr.place c.loop-instr.left.now c.loop-instr.invariant.rises);
  written = next_line _ _ _ c.loop-instr.left.now c.in_ok-left.left.now c.loop-instr.place c.loop-instr.instr-index c.instr-item.result c.args.body.now _ c.loop-instr-test.true c.instr-item.is
      c.in_ok-left.ensures.left c.in_ok-left.ensures.line c.in_ok-push_instr.ensures c.loop-instr.invariant.written;
}
