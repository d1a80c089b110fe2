use Rattle.vale_lowering.specs.Lowered.{lowered}
use Rattle.vale_state_spec.specs.State.{no_input}
use Rattle.vale_lower_facts.specs.Marks.{lowered_facts}
use Rattle.vale_lower_facts.proofs.Program.{takes_no_input}
use Rattle.vale_lower_facts.proofs.laws.well_typed_code_does_what_is_meant.Goals as goal

pub returns-clause-never_wrong : goal.returns-clause-never_wrong
returns-clause-never_wrong c = λ program covered suits ticks.
    c.certified_code_never_goes_wrong.ensures (lowered program) (lowered_facts program) (c.lowered_code_is_certified.ensures program covered suits) no_input (takes_no_input program suits) ticks

pub returns-clause-means : goal.returns-clause-means
returns-clause-means c = λ program covered suits ticks.
    c.lowered_code_does_what_is_meant.ensures.means program ticks
    (c.certified_code_never_goes_wrong.ensures (lowered program) (lowered_facts program) (c.lowered_code_is_certified.ensures program covered suits) no_input (takes_no_input program suits) ticks)
