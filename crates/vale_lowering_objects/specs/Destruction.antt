-- What a code's kinds owe the kinds of a program, so that objects are destroyed alike.
use Rattle.std.specs.Prelude.{◌≡◌, ℕ, List, [], ◌∷◌, Option, Some, None, slice_get}
use Rattle.vale_base.specs.declared.name.Kind.{Kind}
use Rattle.vale_rules_spec.specs.Typed.{Function}
use Rattle.vale_model.specs.Parts as model
use Rattle.vale_model.specs.Parts.{Parts, type_of_kind}
use Rattle.vale_model.specs.Destruction.{destructor_in}
use Rattle.vale_code.specs.Kinds.{kind_text, destructor_of}
use Rattle.vale_code.specs.Parts.{Parts as Code}
use Rattle.vale_code.specs.declared.func.Func.{Func}
use Rattle.vale_lowering_objects.specs.Lowered.{param_gives, result_gives}
use Rattle.vale_lowering_objects.specs.Scopes.{void, owner}

-- the function j of the code is this destructor
pub record IsDestructor (code : Code) (functions : List Function) (j : ℕ) (f : Function) : Type 0 where
  pub meant : slice_get functions j ≡ Some f
  pub func : Func
  pub here : slice_get code.funcs j ≡ Some func
  pub form : func.form ≡ 3
  -- it takes an owner and gives nothing
  pub takes : param_gives f ≡ owner ∷ []
  pub gives : result_gives f ≡ void

abbrev pub SameDestructor : Code → List Function → Option ℕ → Option Function → Type 0
SameDestructor code functions None None = Unit {0}
SameDestructor code functions (Some j) (Some f) = IsDestructor code functions j f
SameDestructor code functions None (Some f) = ⊥
SameDestructor code functions (Some j) None = ⊥

pub record SameKinds (code : Code) (functions : List Function) (p : Parts) : Type 0 where
  pub texts : (k : Kind) → kind_text code k ≡ model.kind_text p k
  pub destructors : (k : Kind) → SameDestructor code functions (destructor_of code k) (destructor_in p (type_of_kind p k))
