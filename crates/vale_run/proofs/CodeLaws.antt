-- What is known of code that is run.
use Rattle.std.proofs.Common.{◌≡◌, ◌==◌, ◌&&◌, ℕ, true, List, [], ◌∷◌, Option, Some, None, refl, sym, ap, subst, ◌∙◌, arith}
use Rattle.std.proofs.Math.Logic.{∥∥₁_elim}
use Rattle.std.proofs.lemmas.Bool.{and_parts, eqb-true}
use Rattle.std.specs.Prelude.{length, slice_get}
use Rattle.vale_cert.specs.Certificate.{Certified, first_fault}
use Rattle.vale_cert.specs.Input.{params_take, function_takes, takes_input}
use Rattle.vale_cert.specs.declared.facts.FuncFacts.{FuncFacts}
use Rattle.vale_cert.specs.declared.fault.Fault.{Fault}
use Rattle.vale_code.specs.Parts.{Parts}
use Rattle.vale_code.specs.declared.func.Func.{Func}
use Rattle.vale_code.specs.declared.ty.Ty.{Ty}
use Rattle.vale_run.specs.CodeFiles.{takes_nothing, is_run}
use Rattle.vale_state_spec.specs.State.{no_input}

no_item : {A : Type 0} (xs : List A) → (length xs == 0) ≡ true → xs ≡ []
no_item [] is = refl
no_item (x ∷ xs) is =
    let same : length (x ∷ xs) ≡ 0 = eqb-true (length (x ∷ xs)) 0 is in
    absurd (omega (arith, same))

params_none : (code : Parts) (params : List Ty) → params ≡ [] → params_take code params no_input ≡ true
params_none code params is = rw is refl

function_none : (code : Parts) (f : Option Func) → takes_nothing f ≡ true → function_takes code no_input f ≡ true
function_none code None is = absurd cc
function_none code (Some f) is = params_none code f.params (no_item f.params is)

pub run_kinds : (code : Parts) → is_run code ≡ true → code.kinds ≡ []
run_kinds code is = no_item code.kinds (and_parts (length code.kinds == 0) (takes_nothing (slice_get code.funcs code.main)) is).0

pub run_takes : (code : Parts) → is_run code ≡ true → takes_input code no_input ≡ true
run_takes code is = function_none code (slice_get code.funcs code.main) (and_parts (length code.kinds == 0) (takes_nothing (slice_get code.funcs code.main)) is).1

untruncated : (o : Option Fault) → ∥ o ≡ None ∥₁ → o ≡ None
untruncated None t = refl
untruncated (Some f) t = absurd (∥∥₁_elim t (λ x y. absurd x) (λ e. let x : ⊥ = cc in x))

-- what a value of certified code says of it
pub is_certified : (code : Parts) (facts : List FuncFacts) → ∥ Certified code facts ∥₁ → Certified code facts
is_certified code facts t = untruncated (first_fault code facts) t
