-- Types that are added one after another, and those that stand once.
use Rattle.std.proofs.Common.{◌≡◌, ℕ, ◌+◌, ◌<◌, List, [], ◌∷◌, ◌++◌, length, get_or, drop, refl, ap, sym, ◌∙◌, append_assoc, append-nil}
use Rattle.std.specs.Prelude.{Bool, true, false, ◌||◌, if◌then◌else◌}
use Rattle.std.specs.List.{list_any}
use Rattle.std.proofs.lemmas.List.{drop_more}
use Rattle.vale_rules_spec.specs.Types.{Ty, same}
use Rattle.vale_model.specs.Kinds.{once}
use Rattle.vale_lower_kinds.specs.Added.{put_type, added}

pub added_more : (ks xs ys : List Ty) → added ks (xs ++ ys) ≡ added (added ks xs) ys
added_more ks [] ys = refl
added_more ks (x ∷ xs) ys = added_more (put_type ks x) xs ys

pub added_one : (ks : List Ty) (x : Ty) → added ks (x ∷ []) ≡ put_type ks x
added_one ks x = refl

or_assoc : (a b c : Bool) → ((a || b) || c) ≡ (a || (b || c))
or_assoc true b c = refl
or_assoc false b c = refl

or_swap : (a b : Bool) → (a || b) ≡ (b || a)
or_swap true true = refl
or_swap true false = refl
or_swap false true = refl
or_swap false false = refl

any_last : (test : Ty → Bool) (ks : List Ty) (x : Ty) → list_any test (ks ++ x ∷ []) ≡ (test x || list_any test ks)
any_last test [] x = refl
any_last test (k ∷ ks) x = ap (λ b. test k || b) (any_last test ks x) ∙ sym (or_assoc (test k) (test x) (list_any test ks)) ∙ ap (λ b. b || list_any test ks) (or_swap (test k) (test x)) ∙ or_assoc (test x) (test k) (list_any test ks)

abbrev AsMany : List Ty → List Ty → Type 0
AsMany before ks = (y : Ty) → list_any (same y) before ≡ list_any (same y) ks

once_by : (b : Bool) (before ks xs : List Ty) (x : Ty) → AsMany before ks
    → ((before' ks' : List Ty) → AsMany before' ks' → ks' ++ once before' xs ≡ added ks' xs)
    → ks ++ (if b then once before xs else x ∷ once (x ∷ before) xs) ≡ added (if b then ks else ks ++ x ∷ []) xs
once_by true before ks xs x same_any rest = rest before ks same_any
once_by false before ks xs x same_any rest =
    sym (append_assoc ks (x ∷ []) (once (x ∷ before) xs))
    ∙ rest (x ∷ before) (ks ++ x ∷ []) (λ y. ap (λ b. same y x || b) (same_any y) ∙ sym (any_last (same y) ks x))

once_added : (before ks xs : List Ty) → AsMany before ks → ks ++ once before xs ≡ added ks xs
once_added before ks [] same_any = append-nil ks
once_added before ks (x ∷ xs) same_any =
    once_by (list_any (same x) before) before ks xs x same_any (λ before' ks' more. once_added before' ks' xs more)
    ∙ ap (λ b. added (if b then ks else ks ++ x ∷ []) xs) (same_any x)

pub once_is : (xs : List Ty) → once [] xs ≡ added [] xs
once_is xs = once_added [] [] xs (λ y. refl)

-- ---- the next part of a list

pub next : {T : Type 0} (from : List T → List Ty) (one : T → List Ty) → ((x : T) (xs : List T) → from (x ∷ xs) ≡ one x ++ from xs)
    → (xs : List T) (k : ℕ) (x : T) (k1 k2 target : List Ty) → k < length xs → x ≡ get_or xs k x → k2 ≡ added k1 (one x) → added k1 (from (drop k xs)) ≡ target → added k2 (from (drop (k + 1) xs)) ≡ target
next from one law xs k x k1 k2 target lt is e so_far =
    ap (λ z. added z (from (drop (k + 1) xs))) e
    ∙ sym (added_more k1 (one x) (from (drop (k + 1) xs)))
    ∙ ap (λ z. added k1 z) (sym (law x (drop (k + 1) xs)) ∙ ap from (sym (drop_more xs k x lt ∙ ap (λ z. z ∷ drop (k + 1) xs) (sym is))))
    ∙ so_far
