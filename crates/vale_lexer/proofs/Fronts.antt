-- What the code finds at the front is what the definition by cases finds.
use Rattle.std.proofs.Common.{◌≡◌, ◌<◌, ℕ, Bool, true, false, eqb, ◌&&◌, nat_eq, List, [], ◌∷◌, length, drop, get_or, refl, sym, ap, ◌∙◌, arith}
use Rattle.std.proofs.lemmas.Bool.{eqb-true}
use Rattle.std.specs.List.{starts_with}
use Rattle.vale_syntax.specs.Bytes.{is_blank, is_letter, is_digit}
use Rattle.vale_lexer.specs.Next.{next, is_comment, sign_piece}

not_eqb : (b n : ℕ) (t : Bool) → eqb b n ≡ t → (b ≡ n → ⊥) → t ≡ false
not_eqb b n true e h = absurd (h (eqb-true b n e))
not_eqb b n false e h = refl

comment_by : (b c : ℕ) (more : List ℕ) (p q : Bool) → eqb b 47 ≡ p → eqb c 47 ≡ q → starts_with nat_eq (b ∷ c ∷ more) (47 ∷ 47 ∷ []) ≡ false → (p && q) ≡ false
comment_by b c more true true f g e =
    let yes : starts_with nat_eq (b ∷ c ∷ more) (47 ∷ 47 ∷ []) ≡ true = ap (λ (x : ℕ). starts_with nat_eq (x ∷ c ∷ more) (47 ∷ 47 ∷ [])) (eqb-true b 47 f) ∙ ap (λ (x : ℕ). starts_with nat_eq (47 ∷ x ∷ more) (47 ∷ 47 ∷ [])) (eqb-true c 47 g) in
    let never : true ≡ false = sym yes ∙ e in cc
comment_by b c more true false f g e = refl
comment_by b c more false q f g e = refl

no_comment : (b : ℕ) (more : List ℕ) → starts_with nat_eq (b ∷ more) (47 ∷ 47 ∷ []) ≡ false → is_comment b more ≡ false
no_comment b [] e = refl
no_comment b (c ∷ more) e = comment_by b c more (eqb b 47) (eqb c 47) refl refl e

pub next_sign : (bytes : List ℕ) → 0 < length bytes → is_blank (get_or bytes 0 0) ≡ false → is_letter (get_or bytes 0 0) ≡ false → is_digit (get_or bytes 0 0) ≡ false
    → (get_or bytes 0 0 ≡ 34 → ⊥) → starts_with nat_eq bytes (47 ∷ 47 ∷ []) ≡ false → sign_piece (get_or bytes 0 0) (drop 1 bytes) ≡ next bytes
unfolding next
next_sign [] some blank letter digit mark comment = absurd (omega arith)
next_sign (b ∷ more) some blank letter digit mark comment = rw (blank, letter, digit, not_eqb b 34 (eqb b 34) refl mark, no_comment b more comment) refl
