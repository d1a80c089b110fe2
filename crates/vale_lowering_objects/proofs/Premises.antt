-- The premises of the law are met: by the code of the program with destructors, for any number of ticks.
use Rattle.std.proofs.Common.{◌≡◌, ℕ, zero, suc, List, [], ◌∷◌, Some, refl}
use Rattle.std.specs.Prelude.{slice_get}
use Rattle.vale_state_spec.specs.Outcome.{Wrong}
use Rattle.vale_state_spec.specs.State.{no_input}
use Rattle.vale_rules_spec.specs.Judged.{Judged, fine, faulty}
use Rattle.vale_rules_spec.specs.Typed as tree
use Rattle.vale_rules_spec.specs.Typed.{Typed, Function}
use Rattle.vale_rules_spec.specs.Typing.{typed}
use Rattle.vale_model.specs.Destruction.{destructor_in}
use Rattle.vale_model.specs.Meaning.{meaning}
use Rattle.vale_model.specs.Parts as model
use Rattle.vale_model.specs.Parts.{Parts, parts_of, type_of_kind}
use Rattle.vale_code.specs.Kinds.{kind_text, destructor_of}
use Rattle.vale_code.specs.Parts.{Parts as Code}
use Rattle.vale_code.specs.Run.{run_code}
use Rattle.vale_lowering_objects.specs.Code.{functions_in, texts_of, lowered_function, lowered}
use Rattle.vale_lowering_objects.specs.Destruction.{IsDestructor, SameDestructor, SameKinds}
use Rattle.vale_lowering_objects.specs.Lowered.{param_gives, result_gives}
use Rattle.vale_lowering_objects.specs.Program.{HasMain}
use Rattle.vale_lowering_objects.specs.Scopes.{void, owner}
use Rattle.vale_lowering_objects.proofs.Codes.{func_here, code_of_program}
use Rattle.vale_lowering_objects.proofs.ObjectTexts.{destructors}
use Rattle.vale_lowering_objects.proofs.Main.{code_means}

abbrev program_of : Judged Typed → Typed
program_of (fine program) = program
program_of (faulty f fs) = tree.typed [] []

abbrev program : Typed
program = program_of (typed destructors)

abbrev p : Parts
p = parts_of program

abbrev code : Code
code = lowered program

abbrev functions : List Function
functions = functions_in p

same_text : (m : ℕ) → kind_text code (record { 0 = m }) ≡ model.kind_text p (record { 0 = m })
same_text zero = refl
same_text (suc zero) = refl
same_text (suc (suc m)) = refl

is_destructor : (j : ℕ) (f : Function) → slice_get functions j ≡ Some f → (lowered_function p (texts_of p functions) functions f).form ≡ 3 → param_gives f ≡ owner ∷ [] → result_gives f ≡ void → IsDestructor code functions j f
is_destructor j f e form takes gives = record {
  meant = e;
  func = lowered_function p (texts_of p functions) functions f;
  here = func_here p j f e;
  form = form;
  takes = takes;
  gives = gives;
}

same_destructor : (m : ℕ) → SameDestructor code functions (destructor_of code (record { 0 = m })) (destructor_in p (type_of_kind p (record { 0 = m })))
same_destructor zero = tt
same_destructor (suc zero) = is_destructor 0 _ refl refl refl refl
same_destructor (suc (suc m)) = tt

same_kinds : SameKinds code functions p
same_kinds = record { texts = λ k. same_text k.0; destructors = λ k. same_destructor k.0 }

has_main : HasMain code p functions
has_main = record { main = _; found = refl; number = refl; pure = refl; plain = refl; takes = tt }

destructors_always : (ticks : ℕ) → ((run_code code no_input ticks).end ≡ Wrong → ⊥) → run_code code no_input ticks ≡ meaning program no_input ticks
destructors_always ticks right = code_means code program functions no_input ticks (code_of_program program same_kinds) has_main refl right
