-- The locals in scope, each in a register of its own, and the functions and texts that a body names.
use Rattle.std.specs.Prelude.{ℕ, ◌+◌, suc, Bool, true, false, List, [], ◌∷◌, Option, Some, None, bytes_eq, if◌then◌else◌}
use Rattle.vale_rules_spec.specs.Types.{Ty, result_of, is_copy}
use Rattle.vale_rules_spec.specs.Types as y
use Rattle.vale_syntax.specs.Tree.{Head, head}
use Rattle.vale_rules_spec.specs.Typed.{Function}
use Rattle.vale_model.specs.Kinds.{head_of}
use Rattle.vale_model.specs.Parts.{is_pure}
use Rattle.vale_model.specs.Runs as local
use Rattle.vale_code.specs.declared.ty.Ty.{Ty as CodeTy}
use Rattle.vale_code.specs.declared.ty.Ty.TheVariants as t

-- a local, or a value that waits for the rest of its expression, and its register
pub record Entry : Type 0 where
  pub name : Option ℕ
  pub register : ℕ

-- the innermost first; the registers rise from the outermost on
abbrev pub Scope : Type 0
Scope = List Entry

abbrev pub entry : ℕ → ℕ → Entry
entry n r = record { name = Some n; register = r }

abbrev pub waiting : ℕ → Entry
waiting r = record { name = None; register = r }

-- the register of a local
abbrev pub place_of : ℕ → Scope → Option ℕ
place_of n [] = None
place_of n (x ∷ s) = if local.has_name n x.name then Some x.register else place_of n s

-- the parameters have the first registers, in order
abbrev pub parameters : ℕ → List ℕ → Scope → Scope
parameters r [] s = s
parameters r (n ∷ ns) s = parameters (r + 1) ns (entry n r ∷ s)

-- ---- types

-- the code's type of the values; of those that are lowered so far
abbrev pub code_type : Ty → CodeTy
code_type y.int = t.Int
code_type y.bool = t.Truth
code_type y.str = t.Text
code_type _ = t.Void

abbrev pub agree : Bool → Bool → Bool
agree true b = b
agree false true = false
agree false false = true

-- ---- what a body names

-- the texts of the code, the functions of the program in order, and whether the function that is lowered gives a value
pub record Around : Type 0 where
  pub texts : List (List ℕ)
  pub functions : List Function
  pub gives : Bool

-- the number of a text: the first place where it stands, and else how many there are
abbrev pub number_of_text : List ℕ → List (List ℕ) → ℕ
number_of_text text [] = 0
number_of_text text (u ∷ us) = if bytes_eq text u then 0 else suc (number_of_text text us)

-- the number of the first function that the test accepts
abbrev pub number_of_function : (Function → Bool) → List Function → ℕ
number_of_function test [] = 0
number_of_function test (f ∷ fs) = if test f then 0 else suc (number_of_function test fs)

abbrev pub head_result : Head → Ty
head_result (head is_pure n ps x) = result_of x

abbrev pub result_type : Function → Ty
result_type f = head_result (head_of f)

-- a function that isn't pure and gives a value exactly where one is wanted
abbrev pub may_be_called : Bool → Option Function → Bool
may_be_called gives None = false
may_be_called gives (Some f) = if is_pure f then false else agree gives (is_copy (result_type f))
