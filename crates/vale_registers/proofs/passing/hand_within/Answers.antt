use Rattle.vale_registers.proofs.Passes.{given_down}
use Rattle.vale_registers.proofs.passing.hand_within.Goals as goal

pub returns : goal.returns
returns c =
    let s = c.split_at_mut-lower in
    given_down c.args.top c.args.to c.args.from c.args.cells.now c.args.texts.now s.result.0.now s.result.1.now _ c.move_cell.new.to c.move_cell.new.texts s.ensures.front s.ensures.back s.ensures.front_len c.requires.to c.requires.above c.requires.from c.move_cell.ensures
