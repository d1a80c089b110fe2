-- A sign is found exactly where its text is.
use Rattle.std.proofs.Common.{◌≡◌, ◌≤◌, ℕ, Bool, true, false, cond, eqb, ◌&&◌, List, [], ◌∷◌, length, get_or, Option, Some, is_some, refl, sym, ap, subst, ◌∙◌, arith}
use Rattle.std.proofs.lemmas.Bool.{eqb-true}
use Rattle.vale_syntax.specs.Bytes.{sign_text}
use Rattle.vale_syntax.specs.declared.token.Sign.{Sign}
use Rattle.vale_syntax.specs.declared.token.Sign.TheVariants as s
use Rattle.vale_lexer.specs.Next.{one_sign, two_sign}

-- what holds of each answer of a chain of tests holds of the answer
chain : (P : Sign → Type 0) (x : Sign) (t : Bool) (a : Sign) (o : Option Sign) → (t ≡ true → P a) → (o ≡ Some x → P x) → cond t (Some a) o ≡ Some x → P x
chain P x true a o h g e = let same : a ≡ x = cc in subst P same (h refl)
chain P x false a o h g e = g e

at_byte : (b n : ℕ) → eqb b n ≡ true → n ∷ [] ≡ b ∷ []
at_byte b n h = ap (λ (z : ℕ). z ∷ []) (sym (eqb-true b n h))

at_bytes_by : (b c m n : ℕ) (p q : Bool) → eqb b m ≡ p → eqb c n ≡ q → (p && q) ≡ true → m ∷ n ∷ [] ≡ b ∷ c ∷ []
at_bytes_by b c m n true true f g h = ap (λ (z : ℕ). z ∷ n ∷ []) (sym (eqb-true b m f)) ∙ ap (λ (z : ℕ). b ∷ z ∷ []) (sym (eqb-true c n g))
at_bytes_by b c m n true false f g h = absurd cc
at_bytes_by b c m n false q f g h = absurd cc

at_bytes : (b c m n : ℕ) → (eqb b m && eqb c n) ≡ true → m ∷ n ∷ [] ≡ b ∷ c ∷ []
at_bytes b c m n h = at_bytes_by b c m n (eqb b m) (eqb c n) refl refl h

pub two_found : (b c : ℕ) (x : Sign) → two_sign b c ≡ Some x → sign_text x ≡ b ∷ c ∷ []
two_found b c x =
    let P : Sign → Type 0 = λ y. sign_text y ≡ b ∷ c ∷ [] in
    chain P x (eqb b 46 && eqb c 46) s.DotDot _ (at_bytes b c 46 46)
    (chain P x (eqb b 61 && eqb c 61) s.Equal _ (at_bytes b c 61 61)
    (chain P x (eqb b 33 && eqb c 61) s.NotEqual _ (at_bytes b c 33 61)
    (chain P x (eqb b 60 && eqb c 61) s.LessEqual _ (at_bytes b c 60 61)
    (chain P x (eqb b 62 && eqb c 61) s.GreaterEqual _ (at_bytes b c 62 61)
    (λ e. absurd cc)))))

pub one_found : (b : ℕ) (x : Sign) → one_sign b ≡ Some x → sign_text x ≡ b ∷ []
one_found b x =
    let P : Sign → Type 0 = λ y. sign_text y ≡ b ∷ [] in
    chain P x (eqb b 123) s.OpenBrace _ (at_byte b 123)
    (chain P x (eqb b 125) s.CloseBrace _ (at_byte b 125)
    (chain P x (eqb b 40) s.OpenParen _ (at_byte b 40)
    (chain P x (eqb b 41) s.CloseParen _ (at_byte b 41)
    (chain P x (eqb b 91) s.OpenBracket _ (at_byte b 91)
    (chain P x (eqb b 93) s.CloseBracket _ (at_byte b 93)
    (chain P x (eqb b 44) s.Comma _ (at_byte b 44)
    (chain P x (eqb b 59) s.Semicolon _ (at_byte b 59)
    (chain P x (eqb b 46) s.Dot _ (at_byte b 46)
    (chain P x (eqb b 33) s.Bang _ (at_byte b 33)
    (chain P x (eqb b 38) s.Ampersand _ (at_byte b 38)
    (chain P x (eqb b 61) s.Assign _ (at_byte b 61)
    (chain P x (eqb b 60) s.Less _ (at_byte b 60)
    (chain P x (eqb b 62) s.Greater _ (at_byte b 62)
    (chain P x (eqb b 43) s.Plus _ (at_byte b 43)
    (chain P x (eqb b 45) s.Minus _ (at_byte b 45)
    (chain P x (eqb b 42) s.Star _ (at_byte b 42)
    (chain P x (eqb b 47) s.Slash _ (at_byte b 47)
    (chain P x (eqb b 37) s.Percent _ (at_byte b 37)
    (λ e. absurd cc)))))))))))))))))))

pub sign_short : (x : Sign) → length (sign_text x) ≤ 2
sign_short s.OpenBrace = omega arith
sign_short x = omega arith

-- a sign of two bytes is found by them
pub two_only : (x : Sign) (b c : ℕ) (more : List ℕ) → b ∷ c ∷ more ≡ sign_text x → two_sign b c ≡ Some x
two_only s.DotDot b c more e = ap (λ (l : List ℕ). two_sign (get_or l 0 0) (get_or l 1 0)) e
two_only s.Equal b c more e = ap (λ (l : List ℕ). two_sign (get_or l 0 0) (get_or l 1 0)) e
two_only s.NotEqual b c more e = ap (λ (l : List ℕ). two_sign (get_or l 0 0) (get_or l 1 0)) e
two_only s.LessEqual b c more e = ap (λ (l : List ℕ). two_sign (get_or l 0 0) (get_or l 1 0)) e
two_only s.GreaterEqual b c more e = ap (λ (l : List ℕ). two_sign (get_or l 0 0) (get_or l 1 0)) e
two_only _ b c more e = absurd (omega (arith, ap length e))

-- each sign's first byte is a sign
pub one_only : (x : Sign) (b : ℕ) (more : List ℕ) → b ∷ more ≡ sign_text x → is_some (one_sign b) ≡ true
one_only s.OpenBrace b more e = ap (λ (l : List ℕ). is_some (one_sign (get_or l 0 0))) e
one_only _ b more e = ap (λ (l : List ℕ). is_some (one_sign (get_or l 0 0))) e
