-- What is built of a program that takes nothing does what the program means.
use Rattle.std.proofs.Common.{◌≡◌, ℕ, List, Ok, true, refl, sym, ap, subst, ◌∙◌}
use Rattle.std.specs.Prelude.{Result}
use Rattle.vale_cert.specs.Input.{takes_input}
use Rattle.vale_code.specs.Need.{need as code_need}
use Rattle.vale_code.specs.Run.{run_code}
use Rattle.vale_lower_facts.specs.Marks.{lowered_facts}
use Rattle.vale_lowering.specs.Lowered.{lowered}
use Rattle.vale_model.specs.Input.{takes_nothing, taken}
use Rattle.vale_model.specs.Meaning.{meaning}
use Rattle.vale_model.specs.Need.{need}
use Rattle.vale_rules_spec.specs.Typed.{Typed}
use Rattle.vale_run.specs.Built.{Built}
use Rattle.vale_run.specs.Means.{input_form}
use Rattle.vale_sound.specs.Runs.{Runs}
use Rattle.vale_state_spec.specs.State.{Given, no_input}

module _ (program : Typed) (none : input_form program ≡ takes_nothing) where
  -- nothing is the one input that it may be given
  only_nothing : (bytes : List ℕ) (input : Given) → taken (input_form program) bytes ≡ Ok input → no_input ≡ input
  only_nothing bytes input is =
      let both : taken takes_nothing bytes ≡ Ok input = ap (λ f. taken f bytes) (sym none) ∙ is in
      cc both

  pub built : Runs program → Built program (lowered program) (lowered_facts program)
  built r = record {
    certified = r.certified;
    takes = λ bytes input is. subst (λ i. takes_input (lowered program) i ≡ true) (only_nothing bytes input is) r.takes;
    means = λ bytes input is. subst (λ i. (ticks : ℕ) → run_code (lowered program) i ticks ≡ meaning program i ticks) (only_nothing bytes input is) r.means;
    needs = λ bytes input is. subst (λ i. (ticks first : ℕ) → code_need (lowered program) i ticks first ≡ need program i ticks first) (only_nothing bytes input is) r.needs;
  }
