use Rattle.std.proofs.lemmas.Result.{on_ok_weaker}
use Rattle.vale_registers.proofs.Passes.{passed_behind}
use Rattle.vale_registers.proofs.passing.lay_behind.Goals as goal

pub returns : goal.returns
returns c =
    let s = c.split_at_mut-row in
    on_ok_weaker c.lay.result
    (passed_behind c.args.base c.args.top c.args.args.now c.args.cells.now c.args.texts.now s.result.0.now s.result.1.now c.lay.new.own c.lay.new.texts s.ensures.front s.ensures.front_len s.ensures.back_len c.lay.auto.own)
    c.lay.ensures
