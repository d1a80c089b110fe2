-- What has the form of a piece, by its first byte.
use Rattle.std.proofs.Common.{◌≡◌, ◌<◌, ℕ, Bool, true, false, cond, eqb, List, [], ◌∷◌, ◌++◌, ◌&&◌, length, get_or, drop, refl, sym, ap, subst, ◌∙◌, arith, inl, inr}
use Rattle.std.specs.List.{list_all}
use Rattle.std.proofs.lemmas.Bool.Decides.{nat_tests}
use Rattle.vale_syntax.specs.Bytes.{Each, is_blank, is_letter, is_digit, is_name_byte, word_text, sign_text}
use Rattle.vale_syntax.specs.Cut.{IsComment, IsName, IsQuote, IsPiece, blank, comment, name, number, quote, sign, IsGap, Means, IsTooLarge, large_number, long_quote}
use Rattle.vale_syntax.specs.declared.token.Word.{Word}
use Rattle.vale_syntax.specs.declared.token.Word.TheVariants as w
use Rattle.vale_syntax.specs.declared.token.Sign.{Sign}
use Rattle.vale_syntax.specs.declared.token.Sign.TheVariants as s
use Rattle.vale_syntax.specs.declared.token.TokenKind.{TokenKind}
use Rattle.vale_syntax.specs.declared.token.TokenKind.TheVariants as k

pub heads : (a b : ℕ) (xs bs : List ℕ) → a ∷ xs ≡ b ∷ bs → (a ≡ b) × (xs ≡ bs)
heads a b xs bs e = (cc, cc)

pub cons_no : (a : ℕ) (xs : List ℕ) → a ∷ xs ≡ [] → ⊥
cons_no a xs e = cc

-- 1 for a blank, 2 for a letter, 3 for a digit, 4 for a `"`, and 0 for any other byte
pub class : ℕ → ℕ
class b = cond (is_blank b) 1 (cond (is_letter b) 2 (cond (is_digit b) 3 (cond (eqb b 34) 4 0)))

pub letter_blank : (b : ℕ) → is_letter b ≡ true → is_blank b ≡ false
letter_blank b h = grind (arith, nat_tests)

pub digit_blank : (b : ℕ) → is_digit b ≡ true → is_blank b ≡ false
digit_blank b h = grind (arith, nat_tests)

pub digit_letter : (b : ℕ) → is_digit b ≡ true → is_letter b ≡ false
digit_letter b h = grind (arith, nat_tests)

pub blank_class : (b : ℕ) → is_blank b ≡ true → class b ≡ 1
unfolding class
blank_class b h = rw h refl

pub letter_class : (b : ℕ) → is_letter b ≡ true → class b ≡ 2
unfolding class
letter_class b h = rw (letter_blank b h, h) refl

pub digit_class : (b : ℕ) → is_digit b ≡ true → class b ≡ 3
unfolding class
digit_class b h = rw (digit_blank b h, digit_letter b h, h) refl

pub quote_class : (b : ℕ) → b ≡ 34 → class b ≡ 4
unfolding class
quote_class b h = ap class h

pub zero_class : (b : ℕ) → is_blank b ≡ false → is_letter b ≡ false → is_digit b ≡ false → eqb b 34 ≡ false → class b ≡ 0
unfolding class
zero_class b f g h i = rw (f, g, h, i) refl

pub slash_class : (b : ℕ) → b ≡ 47 → class b ≡ 0
unfolding class
slash_class b h = ap class h

sign_class : (x : Sign) (b : ℕ) (xs : List ℕ) → b ∷ xs ≡ sign_text x → class b ≡ 0
unfolding class
sign_class s.OpenBrace b xs e = ap (λ (l : List ℕ). class (get_or l 0 0)) e
sign_class _ b xs e = ap (λ (l : List ℕ). class (get_or l 0 0)) e

-- a piece that isn't empty, by its first byte
pub data Sorted (b : ℕ) (xs : List ℕ) : Type 0 where
  a_blank : class b ≡ 1 → xs ≡ [] → Sorted b xs
  a_name : class b ≡ 2 → Each is_name_byte xs → Sorted b xs
  a_number : class b ≡ 3 → Each is_digit xs → Sorted b xs
  a_quote : class b ≡ 4 → (text : List ℕ) → IsQuote (b ∷ xs) text → Sorted b xs
  a_comment : class b ≡ 0 → IsComment (b ∷ xs) → Sorted b xs
  a_sign : class b ≡ 0 → (x : Sign) → b ∷ xs ≡ sign_text x → Sorted b xs

pub sorted : (b : ℕ) (xs : List ℕ) → IsPiece (b ∷ xs) → Sorted b xs
sorted b xs (blank (c, e, h)) = let q = heads b c xs [] e in a_blank (blank_class b (ap is_blank q.0 ∙ h)) q.1
sorted b xs (name (c, more, e, h, each)) = let q = heads b c xs more e in a_name (letter_class b (ap is_letter q.0 ∙ h)) (subst (λ (z : List ℕ). Each is_name_byte z) (sym q.1) each)
sorted b xs (number (some, each)) = a_number (digit_class b each.0) each.1
sorted b xs (quote text (inner, e, q)) = a_quote (quote_class b (heads b 34 xs (inner ++ 34 ∷ []) e).0) text (inner, e, q)
sorted b xs (comment (body, e, each)) = a_comment (slash_class b (heads b 47 xs (47 ∷ body) e).0) (body, e, each)
sorted b xs (sign x e) = a_sign (sign_class x b xs e) x e

-- ---- what a piece is has its form

each_by : (p : ℕ → Bool) (x : ℕ) (xs : List ℕ) (t : Bool) → p x ≡ t → (t && list_all p xs) ≡ true → (list_all p xs ≡ true → Each p xs) → Each p (x ∷ xs)
each_by p x xs true is h more = (is, more h)
each_by p x xs false is h more = absurd cc

pub each_all : (p : ℕ → Bool) (xs : List ℕ) → list_all p xs ≡ true → Each p xs
each_all p [] h = tt
each_all p (x ∷ xs) h = each_by p x xs (p x) refl h (each_all p xs)

pub word_name : (x : Word) → IsName (word_text x)
word_name w.Func = (get_or (word_text w.Func) 0 0, drop 1 (word_text w.Func), refl, refl, each_all is_name_byte (drop 1 (word_text w.Func)) refl)
word_name x = (get_or (word_text x) 0 0, drop 1 (word_text x), refl, refl, each_all is_name_byte (drop 1 (word_text x)) refl)

pub Means-piece : (piece : List ℕ) (kind : TokenKind) → Means piece kind → IsPiece piece
Means-piece piece (k.Word x) h = name (subst IsName (sym h) (word_name x))
Means-piece piece (k.Name text) h = name h.0
Means-piece piece (k.Number n) h = number h.0
Means-piece piece (k.Quote text) h = quote text h.0
Means-piece piece (k.Sign x) h = sign x h

pub IsGap-piece : (piece : List ℕ) → IsGap piece → IsPiece piece
IsGap-piece piece (inl h) = blank h
IsGap-piece piece (inr h) = comment h

pub IsTooLarge-piece : (piece : List ℕ) → IsTooLarge piece → IsPiece piece
IsTooLarge-piece piece (large_number h le) = number h
IsTooLarge-piece piece (long_quote text h le) = quote text h

sign_some : (x : Sign) → 0 < length (sign_text x)
sign_some s.OpenBrace = omega arith
sign_some _ = omega arith

pub IsPiece-some : (piece : List ℕ) → IsPiece piece → 0 < length piece
IsPiece-some piece (blank (c, e, h)) = omega (arith, ap length e)
IsPiece-some piece (name (c, more, e, h, each)) = omega (arith, ap length e)
IsPiece-some piece (number (some, each)) = some
IsPiece-some piece (quote text (inner, e, q)) = omega (arith, ap length e)
IsPiece-some piece (comment (body, e, each)) = omega (arith, ap length e)
IsPiece-some piece (sign x e) = omega (arith, ap length e, sign_some x)
