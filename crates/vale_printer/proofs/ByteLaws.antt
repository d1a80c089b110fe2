-- Spaces and escapes, one more at a time.
use Rattle.std.proofs.Common.{◌≡◌, ◌+◌, ◌*◌, ◌<◌, ℕ, zero, suc, List, [], ◌∷◌, ◌++◌, length, get_or, take, replicate, refl, ap, ◌∙◌, append-nil, arith}
use Rattle.std.proofs.lemmas.List.{take_more}
use Rattle.std.proofs.lemmas.Grind.{flat_map-append}
use Rattle.vale_syntax.specs.Canon.{all_escaped, escaped}

two_more : (n : ℕ) → replicate {A = ℕ} (suc (suc n)) 32 ≡ replicate n 32 ++ 32 ∷ 32 ∷ []
two_more zero = refl
two_more (suc n) = ap (λ (z : List ℕ). 32 ∷ z) (two_more n)

pub spaces_more : (n : ℕ) → replicate {A = ℕ} (2 * (n + 1)) 32 ≡ replicate (2 * n) 32 ++ 32 ∷ 32 ∷ []
spaces_more n = let e : 2 * (n + 1) ≡ suc (suc (2 * n)) = omega arith in rw e (two_more (2 * n))

pub escaped_more : (text : List ℕ) (i : ℕ) → i < length text → all_escaped (take (i + 1) text) ≡ all_escaped (take i text) ++ escaped (get_or text i 0)
escaped_more text i h = rw (take_more text i 0 h) (flat_map-append escaped (take i text) (get_or text i 0 ∷ []) ∙ ap (λ (z : List ℕ). all_escaped (take i text) ++ z) (append-nil (escaped (get_or text i 0))))
