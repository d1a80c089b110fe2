-- Which lists have a spelling, element by element.
use Rattle.std.proofs.Common.{◌≡◌, ℕ, zero, suc, ◌+◌, ◌<◌, ◌≤◌, List, [], ◌∷◌, length, get_or, take, drop, ◌-◌, Bool, true, refl, subst, arith}
use Rattle.std.proofs.lemmas.Bool.{and_parts}
use Rattle.std.specs.List.{AllByRecursion, list_all}
use Rattle.std.proofs.lemmas.Grind.{common_steps}
use Rattle.vale_cert.specs.declared.facts.FuncFacts.{FuncFacts}
use Rattle.vale_code.specs.declared.func.Func.{Func}
use Rattle.vale_codec.specs.Format.{Format}
use Rattle.vale_codec.specs.Numbers.{largest_word, list_of}
use Rattle.vale_file_spec.specs.File.{beside}

more : {A : Type 0} (P : A → Type 0) (xs : List A) (i : ℕ) (d : A) → i < length xs → AllByRecursion P (take i xs) → P (get_or xs i d) → AllByRecursion P (take (suc i) xs)
more P [] i d lt h p = absurd (omega arith)
more P (x ∷ xs) zero d lt h p = (p, tt)
more P (x ∷ xs) (suc i) d lt h p = (h.0, more P xs i d (omega arith) h.1 p)

-- one more element
pub all_more : {A : Type 0} (P : A → Type 0) (xs : List A) (i : ℕ) (d : A) → i < length xs → AllByRecursion P (take i xs) → P (get_or xs i d) → AllByRecursion P (take (i + 1) xs)
all_more P xs i d lt h p = let e : suc i ≡ i + 1 = omega arith in subst (λ (n : ℕ). AllByRecursion P (take n xs)) e (more P xs i d lt h p)

pub list_fits : {A : Type 0} (f : Format A) (xs : List A) → length xs ≤ largest_word → AllByRecursion f.Fits xs → (list_of f).Fits xs
list_fits f xs few each = ((length xs, xs), refl, (few, (refl, each)))

-- what holds of the elements that pass a test holds of all where all pass
pub apply_all : {A : Type 0} (p : A → Bool) (P : A → Type 0) (xs : List A) → list_all p xs ≡ true → AllByRecursion (λ x. p x ≡ true → P x) xs → AllByRecursion P xs
apply_all p P [] h each = tt
apply_all p P (x ∷ xs) h each = let a = and_parts (p x) (list_all p xs) h in (each.0 a.0, apply_all p P xs a.1 each.1)

pub apply_both : {A : Type 0} (p : A → Bool) (Q P : A → Type 0) (xs : List A) → list_all p xs ≡ true → AllByRecursion Q xs → AllByRecursion (λ x. p x ≡ true → Q x → P x) xs → AllByRecursion P xs
apply_both p Q P [] h q each = tt
apply_both p Q P (x ∷ xs) h q each = let a = and_parts (p x) (list_all p xs) h in (each.0 a.0 q.0, apply_both p Q P xs a.1 q.1 each.1)

pub each_of : {A : Type 0} (P Q : A → Type 0) → ((x : A) → P x → Q x) → (xs : List A) → AllByRecursion P xs → AllByRecursion Q xs
each_of P Q f [] h = tt
each_of P Q f (x ∷ xs) h = (f x h.0, each_of P Q f xs h.1)

-- functions beside their facts, of which the first is looked at
pub beside_more : (P : Func × FuncFacts → Type 0) (fs : List Func) (facts : List FuncFacts) (f : Func) (known : FuncFacts)
    → 1 ≤ length fs → 1 ≤ length facts → f ≡ get_or fs 0 f → known ≡ get_or facts 0 known → P (f, known)
    → AllByRecursion P (beside (take (length fs - 1) (drop 1 fs)) (take (length facts - 1) (drop 1 facts))) → AllByRecursion P (beside fs facts)
beside_more P [] facts f known some others is also fits each = absurd (omega (arith, some))
beside_more P (g ∷ fs) [] f known some others is also fits each = absurd (omega (arith, others))
beside_more P (g ∷ fs) (x ∷ facts) f known some others is also fits each =
    let all : take (length (g ∷ fs) - 1) (drop 1 (g ∷ fs)) ≡ fs = grind (arith, common_steps) in
    let rest : take (length (x ∷ facts) - 1) (drop 1 (x ∷ facts)) ≡ facts = grind (arith, common_steps) in
    (subst (λ k. P (g, k)) also (subst (λ h. P (h, known)) is fits), rw (all, rest) at each)
