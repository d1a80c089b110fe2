use Rattle.vale_sound.proofs.Sound.{well_formed_is_well_typed}
use Rattle.vale_sound.proofs.laws.well_formed_programs_are_well_typed.Goals as goal

pub returns : goal.returns
returns c = λ text tree decls program bytes formed covered. well_formed_is_well_typed text tree decls program bytes formed covered
