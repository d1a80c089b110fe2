-- What code owes a program: a function for each of its functions, and the same kinds.
use Rattle.std.specs.Prelude.{◌≡◌, ℕ, codes, ◌+◌, List, [], ◌∷◌, ◌++◌, length, map, flat_map, Some, true, false, if◌then◌else◌, slice_get}
use Rattle.vale_state_spec.specs.Outcome.{Wrong}
use Rattle.vale_state_spec.specs.State.{Given}
use Rattle.vale_rules_spec.specs.Declarations.{head_params, param_type}
use Rattle.vale_rules_spec.specs.Types.{Ty, type_of}
use Rattle.vale_rules_spec.specs.Types as y
use Rattle.vale_rules_spec.specs.Typed.{Function, Block, block, Typed}
use Rattle.vale_model.specs.Kinds.{head_of, body_of}
use Rattle.vale_state_spec.specs.World.{Value}
use Rattle.vale_syntax.specs.Tree.{Param}
use Rattle.vale_model.specs.Meaning.{meaning, given_to}
use Rattle.vale_model.specs.Parts.{Parts, parts_of, name_text, name_of, param_names, kind_of, functions_of, first_function, has_text, is_pure}
use Rattle.vale_model.specs.Need as need
use Rattle.vale_code.specs.Need as code_need
use Rattle.vale_code.specs.Kinds.{text_at}
use Rattle.vale_code.specs.Parts.{Parts as Code}
use Rattle.vale_code.specs.Run.{run_code}
use Rattle.vale_code.specs.declared.func.Func.{Func}
use Rattle.vale_code.specs.declared.instr.Instr.{Instr}
use Rattle.vale_code.specs.declared.instr.Instr.TheVariants as i
use Rattle.vale_code.specs.declared.ty.Ty.{Ty as CodeTy}
use Rattle.vale_code.specs.declared.ty.Ty.TheVariants as t
use Rattle.vale_lowering.specs.Instructions.{only_if}
use Rattle.vale_lowering.specs.Scopes.{number_of_function, result_type}
use Rattle.vale_lowering_objects.specs.Destruction.{SameKinds}
use Rattle.vale_lowering_objects.specs.Input.{is_lawful_input}
use Rattle.vale_lowering_objects.specs.Lowered.{if_comes, block_after, block_code, drop_scope, param_gives, result_gives, is_destructor}
use Rattle.vale_lowering_objects.specs.Scopes.{Gives, void, agree, Around, parameters}

-- the code's type of the values
abbrev pub code_type : Parts → Ty → CodeTy
code_type p y.void = t.Void
code_type p y.int = t.Int
code_type p y.bool = t.Truth
code_type p y.str = t.Text
code_type p (y.kind n) = t.Own (kind_of p (y.kind n))
code_type p (y.array x) = t.Own (kind_of p (y.array x))
code_type p (y.ref x) = t.Ref (kind_of p x)
code_type p (y.imm x) = t.Frozen (kind_of p x)
code_type p (y.iso x) = t.Iso (kind_of p x)

abbrev pub names_in : Function → List ℕ
names_in f = param_names (head_params (head_of f))

-- what parameters get
abbrev pub given_all : List Param → List Value → List Value
given_all (q ∷ ps) (v ∷ vs) = given_to (type_of (param_type q)) v ∷ given_all ps vs
given_all _ _ = []

-- a body that comes to its end returns nothing there, and drops the parameters
abbrev pub body_code : Around → List ℕ → List Gives → Block → List Instr
body_code around ns qs (block at end x ss) =
    let s = parameters 0 ns qs [] in
    if_comes 0 (block_code around void (block at end x ss) 0 (length ns) (length ns + 1) s []) (block_after (block at end x ss) (length ns + 1) s [])
    (λ place g. only_if (agree around.gives void) (length ns) (drop_scope s g end ++ (i.RetVoid ∷ [])))

abbrev pub lowered_body : Parts → List (List ℕ) → List Function → Function → List Instr
lowered_body p texts functions f = body_code (record { parts = p; texts = texts; functions = functions; gives = result_gives f }) (names_in f) (param_gives f) (body_of f)

abbrev pub form_number : Parts → Function → ℕ
form_number p f = if is_pure f then 1 else (if is_destructor p f then 3 else 0)

-- the function j of the code is this function, lowered
pub record IsLowered (code : Code) (p : Parts) (functions : List Function) (j : ℕ) (f : Function) : Type 0 where
  pub func : Func
  pub here : slice_get code.funcs j ≡ Some func
  pub form : func.form ≡ form_number p f
  pub params : func.params ≡ map (λ q. code_type p (type_of (param_type q))) (head_params (head_of f))
  pub result : func.result ≡ code_type p (result_type f)
  pub name : text_at code func.name ≡ name_text p (name_of f)
  pub body : func.body ≡ lowered_body p code.texts functions f

pub record IsCode (code : Code) (p : Parts) (functions : List Function) : Type 0 where
  pub all : functions ≡ flat_map functions_of p.items
  pub at : (j : ℕ) (f : Function) → slice_get functions j ≡ Some f → IsLowered code p functions j f
  pub kinds : SameKinds code functions p

-- what `main` takes: nothing, or an array
abbrev pub TakesInput : List Param → Type 0
TakesInput [] = Unit {0}
TakesInput (q ∷ []) = (x : Ty) × (type_of (param_type q) ≡ y.array x)
TakesInput (q ∷ r ∷ qs) = ⊥

pub record HasMain (code : Code) (p : Parts) (functions : List Function) : Type 0 where
  pub main : Function
  pub found : first_function (has_text p (codes "main")) functions ≡ Some main
  pub number : code.main ≡ number_of_function (has_text p (codes "main")) functions
  pub pure : is_pure main ≡ false
  pub plain : is_destructor p main ≡ false
  pub takes : TakesInput (head_params (head_of main))

-- Lowered code that doesn't go wrong does what its program means, tick by tick, with its owners, its destructions and its
-- destructors, on every lawful input.
abbrev pub CodeMeans : Type 0
CodeMeans =
    (code : Code) (program : Typed) (functions : List Function) (input : Given) (ticks : ℕ) →
    IsCode code (parts_of program) functions → HasMain code (parts_of program) functions → is_lawful_input input ≡ true →
    ((run_code code input ticks).end ≡ Wrong → ⊥) → run_code code input ticks ≡ meaning program input ticks

-- It needs as many frames.
abbrev pub CodeNeeds : Type 0
CodeNeeds =
    (code : Code) (program : Typed) (functions : List Function) (input : Given) (ticks first : ℕ) →
    IsCode code (parts_of program) functions → HasMain code (parts_of program) functions → is_lawful_input input ≡ true →
    ((run_code code input ticks).end ≡ Wrong → ⊥) → code_need.need code input ticks first ≡ need.need program input ticks first
