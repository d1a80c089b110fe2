-- Texts and functions by their numbers.
use Rattle.std.specs.Prelude.{◌≡◌, ℕ, ◌+◌, List, [], ◌∷◌, length, Option, Some, None, bytes_eq, nat_eq, if◌then◌else◌}
use Rattle.std.specs.Borrow.{Bor}
use Rattle.std.specs.HashMap.{get, get_by}
use Rattle.vale_rules_spec.specs.Typed.{Function}
use Rattle.vale_rules_spec.specs.Types.{is_copy}
use Rattle.vale_model.specs.Parts.{is_pure, has_name}
use Rattle.vale_lowering.specs.Scopes.{number_of_text, result_type}
use Rattle.vale_lower_expr.specs.declared.texts.Places.{Places}
use Rattle.vale_lower_expr.specs.declared.functions.Callable.{Callable}
use Rattle.vale_lower_expr.specs.declared.functions.Callables.{Callables}

-- ---- texts

abbrev pub text_place : Places → List ℕ → Option ℕ
text_place p text = get_by (λ k. bytes_eq text k.now) p.places

abbrev pub or_count : Option ℕ → ℕ → ℕ
or_count (Some n) count = n
or_count None count = count

abbrev pub AreNumbered : List (List ℕ) → Places → Type 0
AreNumbered all p = (q : Bor (List ℕ)) → or_count (text_place p q.now) (length all) ≡ number_of_text q.now all

-- ---- functions

abbrev pub callable : ℕ → Function → Callable
callable at f = record { number = at; is_pure = is_pure f; gives = is_copy (result_type f) }

-- the first function of the name among these, the first of which has this number
abbrev pub callable_from : ℕ → ℕ → List Function → Option Callable
callable_from at n [] = None
callable_from at n (f ∷ fs) = if has_name n f then Some (callable at f) else callable_from (at + 1) n fs

abbrev pub callable_in : Callables → ℕ → Option Callable
callable_in cs n = get nat_eq cs.callables n

abbrev pub AreCallable : List Function → Callables → Type 0
AreCallable fs cs = (n : ℕ) → callable_in cs n ≡ callable_from 0 n fs
