-- A part and what follows it, by what each call made.
use Rattle.std.proofs.Common.{◌≡◌, ℕ, ◌+◌, ◌-◌, ◌<◌, ◌≤◌, List, [], ◌∷◌, ◌++◌, take, drop, get_or, length, ap, sym, ◌∙◌, arith}
use Rattle.std.specs.Prelude.{Bool}
use Rattle.std.proofs.lemmas.List.{take_all, take_more, drop_more}
use Rattle.vale_lower_flow.specs.declared.flow.Mark.{Mark}
use Rattle.vale_lower_flow.specs.Flow.{Going, only, ended}

-- the code of a part stays only where a test holds
pub kept : (ok ok2 : Bool) (start n h : ℕ) (f1 g r : Going) → start ≡ n → ok ≡ ok2 → f1 ≡ g → r ≡ only ok start h f1 → r ≡ only ok2 n h g
kept ok ok2 start n h f1 g r es eo e1 er =
    er ∙ ap (λ (b : Bool). only b start h f1) eo ∙ ap (λ (i : ℕ). only ok2 i h f1) es ∙ ap (λ (z : Going). only ok2 n h z) e1

-- and what follows it ends
pub front_closed : (k : Going → Going) (ok ok2 : Bool) (start n h : ℕ) (m m2 : Mark) (f1 g f2 r : Going) → start ≡ n → m ≡ m2 → ok ≡ ok2 → f1 ≡ g → f2 ≡ k f1 → r ≡ only ok start h (ended m f2)
    → r ≡ only ok2 n h (ended m2 (k g))
front_closed k ok ok2 start n h m m2 f1 g f2 r es em eo e1 e2 er =
    er ∙ ap (λ (b : Bool). only b start h (ended m f2)) eo ∙ ap (λ (i : ℕ). only ok2 i h (ended m f2)) es ∙ ap (λ (z : Mark). only ok2 n h (ended z f2)) em
    ∙ ap (λ (z : Going). only ok2 n h (ended m2 z)) (e2 ∙ ap k e1)

-- what follows a part that has no test ends
pub mark_closed : (k : Going → Going) (m m2 : Mark) (f1 g f2 r : Going) → m ≡ m2 → f1 ≡ g → f2 ≡ k f1 → r ≡ ended m f2 → r ≡ ended m2 (k g)
mark_closed k m m2 f1 g f2 r em e1 e2 er = er ∙ ap (λ (z : Mark). ended z f2) em ∙ ap (λ (z : Going). ended m2 z) (e2 ∙ ap k e1)

-- an element before those after it
pub next_of : {A : Type 0} (xs : List A) (k : ℕ) (x : A) → k < length xs → x ≡ get_or xs k x → drop k xs ≡ x ∷ drop (k + 1) xs
next_of xs k x lt is = drop_more xs k x lt ∙ ap (λ z. z ∷ drop (k + 1) xs) (sym is)

-- the last element after those before it
pub last_of : {A : Type 0} (xs : List A) (x : A) → 1 ≤ length xs → x ≡ get_or xs (length xs - 1) x → take (length xs - 1) xs ++ x ∷ [] ≡ xs
last_of xs x le is =
    let k : ℕ = length xs - 1 in
    let lt : length xs - 1 < length xs = omega arith in
    let all : length xs ≤ length xs - 1 + 1 = omega arith in
    ap (λ z. take k xs ++ z ∷ []) is ∙ sym (take_more xs k x lt) ∙ take_all (k + 1) xs all
