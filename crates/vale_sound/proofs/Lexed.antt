-- The numbers and quotes among the tokens of a text of bytes are those of programs: each number an int, each text one that a `str` may have.
use Rattle.std.proofs.Common.{◌≡◌, ℕ, ℤ, pos, ◌<◌, ◌≤◌, ◌^◌, Bool, true, false, List, [], ◌∷◌, ◌++◌, length, Some, None, if◌then◌else◌, refl, sym, subst, arith}
use Rattle.std.specs.List.{list_all}
use Rattle.std.proofs.lemmas.Bool.{and_parts, and_from}
use Rattle.std.proofs.lemmas.Bool.Decides.{nat_tests}
use Rattle.vale_base.specs.Limits.{text_limit}
use Rattle.vale_base.specs.declared.spot.Spot.{Spot}
use Rattle.vale_text.specs.Operations.{is_int}
use Rattle.vale_syntax.specs.Bytes.{escape_of, value}
use Rattle.vale_syntax.specs.Cut.{Quoted, empty, plain, escape, Means, Cuts, none, gap, token}
use Rattle.vale_syntax.specs.declared.token.Token.{Token}
use Rattle.vale_syntax.specs.declared.token.TokenKind.{TokenKind}
use Rattle.vale_syntax.specs.declared.token.TokenKind.TheVariants as k
use Rattle.vale_syntax.specs.Bytes.{is_byte}
use Rattle.vale_lowering.specs.Texts.{is_lawful_text}
use Rattle.vale_sound.proofs.Literals.{IsLawful, AreLawful}

abbrev AreBytes : List ℕ → Type 0
AreBytes text = list_all is_byte text ≡ true

front_bytes : (front back : List ℕ) → AreBytes (front ++ back) → AreBytes front
front_bytes [] back h = refl
front_bytes (b ∷ front) back h =
    let p = and_parts (is_byte b) (list_all is_byte (front ++ back)) h in
    and_from (is_byte b) (list_all is_byte front) p.0 (front_bytes front back p.1)

back_bytes : (front back : List ℕ) → AreBytes (front ++ back) → AreBytes back
back_bytes [] back h = h
back_bytes (b ∷ front) back h = back_bytes front back (and_parts (is_byte b) (list_all is_byte (front ++ back)) h).1

-- ---- quotes

escapes_by : (n t s q : Bool) (b : ℕ) → (if n then Some 10 else if t then Some 9 else if s then Some 92 else if q then Some 34 else None) ≡ Some b → is_byte b ≡ true
escapes_by true t s q b e = let same : 10 ≡ b = cc in subst (λ x. is_byte x ≡ true) same refl
escapes_by false true s q b e = let same : 9 ≡ b = cc in subst (λ x. is_byte x ≡ true) same refl
escapes_by false false true q b e = let same : 92 ≡ b = cc in subst (λ x. is_byte x ≡ true) same refl
escapes_by false false false true b e = let same : 34 ≡ b = cc in subst (λ x. is_byte x ≡ true) same refl
escapes_by false false false false b e = absurd (cc)

escape_byte : (c b : ℕ) → escape_of c ≡ Some b → is_byte b ≡ true
escape_byte c b e = escapes_by _ _ _ _ b e

quoted_bytes : {inner text : List ℕ} → AreBytes inner → Quoted inner text → AreBytes text
quoted_bytes h empty = refl
quoted_bytes h (plain {b} {inner} {text} is more) =
    let p = and_parts (is_byte b) (list_all is_byte inner) h in
    and_from (is_byte b) (list_all is_byte text) p.0 (quoted_bytes p.1 more)
quoted_bytes h (escape {c} {b} {inner} {text} is more) =
    and_from (is_byte b) (list_all is_byte text) (escape_byte c b is) (quoted_bytes (and_parts (is_byte c) (list_all is_byte inner) h).1 more)

short_text : (text : List ℕ) → length text ≤ text_limit → AreBytes text → is_lawful_text text ≡ true
short_text text few h = and_from _ (list_all is_byte text) (grind (arith, nat_tests, few)) h

-- ---- tokens

small_number : (v : ℕ) → v < 2 ^ 63 → is_int (pos v) ≡ true
small_number v few = grind (arith, nat_tests, few)

token_lawful : (piece : List ℕ) (kind : TokenKind) → AreBytes piece → Means piece kind → IsLawful kind
token_lawful piece (k.Word w) h m = tt
token_lawful piece (k.Name text) h m = tt
token_lawful piece (k.Number n) h m = subst (λ (z : ℤ). is_int z ≡ true) (sym m.2) (small_number (value piece) m.1)
token_lawful piece (k.Quote text) h m =
    let (inner, is, quoted) = m.0 in
    short_text text m.1 (quoted_bytes (front_bytes inner (34 ∷ []) (subst AreBytes is h)) quoted)
token_lawful piece (k.Sign s) h m = tt

pub tokens_lawful : {at end : Spot} {text rest : List ℕ} {tokens : List Token} → AreBytes text → Cuts at text tokens end rest → AreLawful tokens
tokens_lawful h none = tt
tokens_lawful h (gap piece after is means longest more) = tokens_lawful (back_bytes piece after (subst AreBytes is h)) more
tokens_lawful h (token {t = t} piece after is means longest spot more) =
    let both = subst AreBytes is h in
    (token_lawful piece t.kind (front_bytes piece after both) means, tokens_lawful (back_bytes piece after both) more)
