-- The first that is unlawful.
use Rattle.std.proofs.Common.{◌≡◌, ℕ, zero, suc, ◌+◌, ◌<◌, ◌≤◌, List, [], ◌∷◌, length, get_or, drop, Bool, true, false, Some, None, if◌then◌else◌, refl, sym, ap, ◌∙◌, arith, add-one, length-drop}
use Rattle.std.proofs.Math.Path.{fun_ext}
use Rattle.std.proofs.lemmas.List.{drop_more}
use Rattle.std.specs.Prelude.{slice_get, ◌||◌, nat_lt}
use Rattle.vale_code.specs.Parts.{Parts}
use Rattle.vale_code.specs.declared.func.Func.{Func}
use Rattle.vale_base.specs.declared.name.Kind.{Kind}
use Rattle.vale_code.specs.declared.ty.Ty.{Ty}
use Rattle.vale_code.specs.declared.ty.Ty.TheVariants as t
use Rattle.vale_cert.specs.Shape.{shape_fault, shape_fault_by, same_types, funcs_fault, func_is_lawful}
use Rattle.vale_cert.specs.Types.{marked, reaches_isolate, isolates_under, is_isolate, array_test}
use Rattle.vale_cert.specs.declared.facts.FuncFacts.{FuncFacts}

-- ---- marks

pub by_marks : (code : Parts) (marks : List Bool) (facts : List FuncFacts) → ((n : ℕ) → marked marks n ≡ reaches_isolate code n) → shape_fault_by code (marked marks) facts ≡ shape_fault code facts
by_marks code marks facts same = ap (λ (r : ℕ → Bool). shape_fault_by code r facts) (fun_ext same)

-- ---- lists of types

pub all_used : (xs ys : List Ty) (i : ℕ) → i < length xs → length ys < 1 → same_types (drop i xs) ys ≡ false
all_used xs (y ∷ ys) i lt few = absurd (omega arith)
all_used [] [] i lt few = absurd (omega arith)
all_used (x ∷ xs) [] zero lt few = refl
all_used (x ∷ xs) [] (suc i) lt few = all_used xs [] i (omega arith) few

-- ---- isolates under arrays

or_none : (b : Bool) → b ≡ (b || false)
or_none true = refl
or_none false = refl

-- only owned arrays lead on
no_array : (code : Parts) (n : ℕ) (ty : Ty) → ((test : Ty → Bool) → array_test code test ty ≡ false) → is_isolate ty ≡ isolates_under code n ty
no_array code zero ty none = refl
no_array code (suc n) ty none = or_none (is_isolate ty) ∙ sym (ap (λ (b : Bool). is_isolate ty || b) (none (isolates_under code n)))

pub not_owned : (code : Parts) (n : ℕ) (ty : Ty) → ((kind : Kind) → ty ≡ t.Own kind → ⊥) → is_isolate ty ≡ isolates_under code n ty
not_owned code n t.Void other = no_array code n t.Void (λ test. refl)
not_owned code n t.Int other = no_array code n t.Int (λ test. refl)
not_owned code n t.Truth other = no_array code n t.Truth (λ test. refl)
not_owned code n t.Text other = no_array code n t.Text (λ test. refl)
not_owned code n (t.Own kind) other = absurd (other kind refl)
not_owned code n (t.Ref kind) other = no_array code n (t.Ref kind) (λ test. refl)
not_owned code n (t.Frozen kind) other = no_array code n (t.Frozen kind) (λ test. refl)
not_owned code n (t.Iso kind) other = no_array code n (t.Iso kind) (λ test. refl)

-- ---- functions with their facts

drop_past : {A : Type 0} (xs : List A) (m : ℕ) → length xs ≤ m → drop m xs ≡ []
drop_past [] zero le = refl
drop_past [] (suc m) le = refl
drop_past (x ∷ xs) zero le = absurd (omega arith)
drop_past (x ∷ xs) (suc m) le = drop_past xs m (omega arith)

pub drop_none : {A : Type 0} (xs : List A) (m : ℕ) → None ≡ slice_get xs m → drop m xs ≡ []
drop_none [] zero e = refl
drop_none [] (suc m) e = refl
drop_none (x ∷ xs) zero e = let y : ⊥ = cc in absurd y
drop_none (x ∷ xs) (suc m) e = drop_none xs m e

pub drop_some : {A : Type 0} (xs : List A) (m : ℕ) (y : A) → Some y ≡ slice_get xs m → drop m xs ≡ y ∷ drop (suc m) xs
drop_some [] m y e = let z : ⊥ = cc in absurd z
drop_some {A = A} (x ∷ xs) zero y e = let same : y ≡ x = cc in ap (λ (z : A). z ∷ xs) (sym same)
drop_some (x ∷ xs) (suc m) y e = drop_some xs m y e

module _ (code : Parts) (reaches : ℕ → Bool) (m : ℕ) (fs : List Func) (facts : List FuncFacts) (f : Func) (inside : m < length fs) (is : f ≡ get_or fs m f) where
  front : drop m fs ≡ f ∷ drop (m + 1) fs
  front = drop_more fs m f inside ∙ ap (λ (x : Func). x ∷ drop (m + 1) fs) (sym is)

  pub no_facts : None ≡ slice_get facts m → Some m ≡ funcs_fault code reaches m (drop m fs) (drop m facts)
  no_facts e =
      sym (ap (λ (x : List Func). funcs_fault code reaches m x (drop m facts)) front
      ∙ ap (funcs_fault code reaches m (f ∷ drop (m + 1) fs)) (drop_none facts m e))

  module _ (one : FuncFacts) (there : Some one ≡ slice_get facts m) where
    tail : drop m facts ≡ one ∷ drop (m + 1) facts
    tail = rw add-one (drop_some facts m one there)

    opened : funcs_fault code reaches m (drop m fs) (drop m facts) ≡ (if func_is_lawful code reaches m f one then funcs_fault code reaches (m + 1) (drop (m + 1) fs) (drop (m + 1) facts) else Some m)
    opened = ap (λ (x : List Func). funcs_fault code reaches m x (drop m facts)) front ∙ ap (funcs_fault code reaches m (f ∷ drop (m + 1) fs)) tail

    pub unlawful : func_is_lawful code reaches m f one ≡ false → Some m ≡ funcs_fault code reaches m (drop m fs) (drop m facts)
    unlawful is_not = sym (opened ∙ ap (λ (b : Bool). if b then funcs_fault code reaches (m + 1) (drop (m + 1) fs) (drop (m + 1) facts) else Some m) is_not)

    pub lawful : func_is_lawful code reaches m f one ≡ true → funcs_fault code reaches (m + 1) (drop (m + 1) fs) (drop (m + 1) facts) ≡ funcs_fault code reaches m (drop m fs) (drop m facts)
    lawful is_so = sym (opened ∙ ap (λ (b : Bool). if b then funcs_fault code reaches (m + 1) (drop (m + 1) fs) (drop (m + 1) facts) else Some m) is_so)

-- after the last function
left_over : (code : Parts) (reaches : ℕ → Bool) (m : ℕ) (facts : List FuncFacts) → 0 < length facts → Some m ≡ funcs_fault code reaches m [] facts
left_over code reaches m [] some = absurd (omega arith)
left_over code reaches m (one ∷ facts) some = refl

pub more_facts : (code : Parts) (reaches : ℕ → Bool) (m : ℕ) (fs : List Func) (facts : List FuncFacts) → length fs ≤ m → m < length facts → Some m ≡ funcs_fault code reaches m (drop m fs) (drop m facts)
more_facts code reaches m fs facts past more =
    left_over code reaches m (drop m facts) (omega (arith, length-drop m facts))
    ∙ ap (λ (x : List Func). funcs_fault code reaches m x (drop m facts)) (sym (drop_past fs m past))

pub at_end : (code : Parts) (reaches : ℕ → Bool) (m : ℕ) (fs : List Func) (facts : List FuncFacts) → length fs ≤ m → length facts ≤ m → (if nat_lt code.main m then None else Some m) ≡ funcs_fault code reaches m (drop m fs) (drop m facts)
at_end code reaches m fs facts past none =
    ap (funcs_fault code reaches m []) (sym (drop_past facts m none))
    ∙ ap (λ (x : List Func). funcs_fault code reaches m x (drop m facts)) (sym (drop_past fs m past))
