-- What is known of the code of a program that the front accepts: it is certified, takes no input, never goes wrong, does what the
-- program means, and needs as many frames.
use Rattle.std.specs.Prelude.{◌≡◌, ◌≢◌, ℕ, true}
use Rattle.vale_state_spec.specs.Outcome.{Wrong}
use Rattle.vale_state_spec.specs.State.{no_input}
use Rattle.vale_rules_spec.specs.Typed.{Typed}
use Rattle.vale_model.specs.Meaning.{meaning}
use Rattle.vale_model.specs.Need.{need}
use Rattle.vale_code.specs.Need.{need as code_need}
use Rattle.vale_code.specs.Run.{run_code}
use Rattle.vale_cert.specs.Certificate.{Certified}
use Rattle.vale_cert.specs.Input.{takes_input}
use Rattle.vale_lowering.specs.Lowered.{lowered}
use Rattle.vale_lower_facts.specs.Marks.{lowered_facts}

pub record Runs (program : Typed) : Type 0 where
  pub certified : Certified (lowered program) (lowered_facts program)
  pub takes : takes_input (lowered program) no_input ≡ true
  pub never_wrong : (ticks : ℕ) → (run_code (lowered program) no_input ticks).end ≢ Wrong
  pub means : (ticks : ℕ) → run_code (lowered program) no_input ticks ≡ meaning program no_input ticks
  -- where every slot begins at this generation
  pub needs : (ticks first : ℕ) → code_need (lowered program) no_input ticks first ≡ need program no_input ticks first
