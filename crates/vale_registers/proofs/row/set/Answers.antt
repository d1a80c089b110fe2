use Rattle.std.proofs.Common.{◌∙◌}
use Rattle.vale_registers.proofs.Rows.{written_else, written_here}
use Rattle.vale_registers.proofs.row.set.Goals as goal

pub returns : goal.returns
returns c = record {
  is = written_here c.reach.new.shares.items c.args.register c.args.share c.in_ok-reach.ensures.long;
  others = λ i n. written_else c.reach.new.shares.items c.args.register c.args.share i n ∙ c.in_ok-reach.ensures.same i;
}
