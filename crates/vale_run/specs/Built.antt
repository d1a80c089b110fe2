-- What is so of the code that is built of a program.
use Rattle.std.specs.List.{list_all}
use Rattle.std.specs.Prelude.{ℕ, ◌≡◌, List, Ok, true}
use Rattle.vale_cert.specs.Certificate.{Certified}
use Rattle.vale_cert.specs.Input.{takes_input}
use Rattle.vale_cert.specs.declared.facts.FuncFacts.{FuncFacts}
use Rattle.vale_code.specs.Need.{need as code_need}
use Rattle.vale_code.specs.Parts.{Parts}
use Rattle.vale_code.specs.Run.{run_code}
use Rattle.vale_front.specs.Front.{Accepts}
use Rattle.vale_lower_facts.specs.Marks.{lowered_facts}
use Rattle.vale_lowering.specs.Lowered.{lowered}
use Rattle.vale_model.specs.Input.{taken}
use Rattle.vale_model.specs.Meaning.{meaning}
use Rattle.vale_model.specs.Need.{need}
use Rattle.vale_rules_spec.specs.Typed.{Typed}
use Rattle.vale_run.specs.Means.{input_form}
use Rattle.vale_state_spec.specs.State.{Given}
use Rattle.vale_syntax.specs.Bytes.{is_byte}
use Rattle.vale_syntax.specs.Tree.{Tree}
use Rattle.vale_syntax.specs.declared.decls.Decls.{Decls}

-- The facts certify the code, and on every input that the program may be given it takes that input, does what the program means
-- with any ticks, and needs as many frames, where every slot begins at any generation.
pub record Built (program : Typed) (code : Parts) (facts : List FuncFacts) : Type 0 where
  pub certified : Certified code facts
  pub takes : (bytes : List ℕ) (input : Given) → taken (input_form program) bytes ≡ Ok input → takes_input code input ≡ true
  pub means : (bytes : List ℕ) (input : Given) → taken (input_form program) bytes ≡ Ok input
      → (ticks : ℕ) → run_code code input ticks ≡ meaning program input ticks
  pub needs : (bytes : List ℕ) (input : Given) → taken (input_form program) bytes ≡ Ok input
      → (ticks first : ℕ) → code_need code input ticks first ≡ need program input ticks first

-- the lowered code of every program that is accepted is so, with the facts that are lowered
abbrev pub BuildsWhatIsMeant : Type 0
BuildsWhatIsMeant =
    (text : List ℕ) (tree : Tree) (decls : Decls) (program : Typed) → list_all is_byte text ≡ true → Accepts text tree decls program
    → Built program (lowered program) (lowered_facts program)
