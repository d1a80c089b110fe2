use Rattle.vale_lower_facts.proofs.Program.{takes_no_input}
use Rattle.vale_sound.proofs.laws.well_formed_programs_run.Goals as goal

pub returns : goal.returns
returns c = λ text tree decls program bytes formed covered.
    let suits = c.well_formed_programs_are_well_typed.ensures text tree decls program bytes formed covered in
    let code = c.well_typed_code_does_what_is_meant.ensures in
    let wrong = code.never_wrong program covered suits in
    record {
      certified = c.lowered_code_is_certified.ensures program covered suits;
      takes = takes_no_input program suits;
      never_wrong = wrong;
      means = code.means program covered suits;
      needs = λ ticks first. c.lowered_code_does_what_is_meant.ensures.needs program ticks first (wrong ticks);
    }
