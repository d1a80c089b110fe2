use Rattle.std.proofs.Common.{arith}
use Rattle.std.proofs.lemmas.Result.{on_ok_weaker}
use Rattle.vale_registers.proofs.Passes.{passed_within}
use Rattle.vale_registers.proofs.passing.lay_within.Goals as goal

pub returns : goal.returns
returns c =
    let s = c.split_at_mut-used in
    on_ok_weaker c.lay_behind.result
    (passed_within c.args.base c.args.top c.args.end c.args.args.now c.args.cells.now c.args.texts.now s.result.0.now s.result.1.now c.lay_behind.new.cells c.lay_behind.new.texts s.ensures.front s.ensures.front_len c.lay_behind.auto.cells (omega (arith, c.requires.top)))
    c.lay_behind.ensures
