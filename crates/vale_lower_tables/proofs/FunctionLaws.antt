-- What is found by a name is what is found by walking.
use Rattle.std.proofs.Common.{◌≡◌, ℕ, suc, ◌+◌, List, [], ◌∷◌, refl, ap, sym, ◌∙◌, arith}
use Rattle.std.specs.Prelude.{Bool, true, false, Option, Some, None, slice_get, map, option_map, if◌then◌else◌}
use Rattle.std.proofs.lemmas.Option.{none-some, same_Some, slice_get-map}
use Rattle.vale_rules_spec.specs.Typed.{Function}
use Rattle.vale_model.specs.Parts.{has_name, first_function}
use Rattle.vale_lowering.specs.Scopes.{number_of_function}
use Rattle.vale_lower_expr.specs.Found.{or_else}
use Rattle.vale_lower_tables.specs.Kept.{first_place}

-- the function of the first number that the test accepts
pub first_at : (test : Function → Bool) (fs : List Function) → slice_get fs (number_of_function test fs) ≡ first_function test fs
first_at test [] = refl
first_at test (f ∷ fs) = by (test f) (first_at test fs)
  where
    by : (b : Bool) → slice_get fs (number_of_function test fs) ≡ first_function test fs → slice_get (f ∷ fs) (if b then 0 else suc (number_of_function test fs)) ≡ (if b then Some f else first_function test fs)
    by true law = refl
    by false law = law

-- a number where a function was found
abbrev pub number_where : Option Function → ℕ → Option ℕ
number_where (Some f) n = Some n
number_where None n = None

place_by : (b : Bool) (f : Function) (found : Option Function) (rest : Option ℕ) (at n : ℕ) → rest ≡ number_where found ((at + 1) + n)
    → (if b then Some at else rest) ≡ number_where (if b then Some f else found) (at + (if b then 0 else suc n))
place_by true f found rest at n e = ap Some (let z : at ≡ at + 0 = omega arith in z)
place_by false f found rest at n e = e ∙ ap (λ k. number_where found k) (let z : (at + 1) + n ≡ at + suc n = omega arith in z)

pub place_is : (at n : ℕ) (fs : List Function) → first_place at n fs ≡ number_where (first_function (has_name n) fs) (at + number_of_function (has_name n) fs)
place_is at n [] = refl
place_is at n (f ∷ fs) = place_by (has_name n f) f (first_function (has_name n) fs) (first_place (at + 1) n fs) at (number_of_function (has_name n) fs) (place_is (at + 1) n fs)

-- a function is added after those that were there, before those that are left
pub add_number : (o : Option ℕ) (b : Bool) (k : ℕ) (rest : Option ℕ) → or_else (or_else o (if b then Some k else None)) rest ≡ or_else o (if b then Some k else rest)
add_number None true k rest = refl
add_number None false k rest = refl
add_number (Some j) b k rest = refl

where_none : (found : Option Function) (k : ℕ) → number_where found k ≡ None → None ≡ found
where_none None k e = refl
where_none (Some f) k e = absurd (none-some k (sym e))

where_some : (found : Option Function) (k j : ℕ) → number_where found k ≡ Some j → j ≡ k
where_some None k j e = absurd (none-some j e)
where_some (Some f) k j e = sym (same_Some k j e)

none_before : (n : ℕ) → 0 + n ≡ n
none_before n = omega arith

pub none_found : (n : ℕ) (fs : List Function) → first_place 0 n fs ≡ None → None ≡ first_function (has_name n) fs
none_found n fs e = where_none (first_function (has_name n) fs) (0 + number_of_function (has_name n) fs) (sym (place_is 0 n fs) ∙ e)

pub number_found : (n k : ℕ) (fs : List Function) → first_place 0 n fs ≡ Some k → k ≡ number_of_function (has_name n) fs
number_found n k fs e = where_some (first_function (has_name n) fs) (0 + number_of_function (has_name n) fs) k (sym (place_is 0 n fs) ∙ e) ∙ none_before (number_of_function (has_name n) fs)

pub function_found : (n k : ℕ) (fs : List Function) → first_place 0 n fs ≡ Some k → slice_get fs k ≡ first_function (has_name n) fs
function_found n k fs e = ap (λ j. slice_get fs j) (number_found n k fs e) ∙ first_at (has_name n) fs

-- what the function of a number is, where it is looked up
pub looked_up : {G : Type 0} (view : G → Function) (gs : List G) (n k : ℕ) (g : Option G) → first_place 0 n (map view gs) ≡ Some k → g ≡ slice_get gs k → option_map view g ≡ first_function (has_name n) (map view gs)
looked_up view gs n k g e is = ap (option_map view) is ∙ (sym (slice_get-map view gs k) ∙ function_found n k (map view gs) e)

pub ruleset found = (none_found, number_found, function_found, slice_get-map)
