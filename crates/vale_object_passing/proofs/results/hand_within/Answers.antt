use Rattle.vale_object_passing.proofs.Passes.{handed_down}
use Rattle.vale_object_passing.proofs.results.hand_within.Goals as goal

pub returns : goal.returns
returns c =
    let s = c.split_at_mut-lower in
    handed_down c.args.base c.args.top c.args.to c.args.from c.args.registers.now c.args.texts.now s.result.0.now s.result.1.now _ c.move_register.new.to c.move_register.new.texts s.ensures.front s.ensures.back s.ensures.front_len c.requires.room c.requires.above c.requires.from c.move_register.ensures
