-- What a piece is when it stands alone: so no piece is two things.
use Rattle.std.proofs.Common.{◌≡◌, ◌<◌, ◌≤◌, ◌+◌, ◌-◌, ◌^◌, ℕ, Bool, true, false, cond, ltb, leb, List, [], ◌∷◌, ◌++◌, length, take, pos, refl, sym, ap, subst, ◌∙◌, arith, inl, inr}
use Rattle.std.specs.List.{prefix_len}
use Rattle.std.proofs.Math.Seq.{take-length}
use Rattle.std.proofs.lemmas.Bool.Decides.{nat_tests}
use Rattle.vale_base.specs.Limits.{text_limit}
use Rattle.vale_syntax.specs.Bytes.{Each, is_blank, is_letter, is_digit, is_name_byte, value, sign_text, word_text}
use Rattle.vale_syntax.specs.Cut.{IsName, IsNumber, IsQuote, IsGap, Means, Quoted, IsTooLarge, large_number, long_quote}
use Rattle.vale_syntax.specs.declared.token.Word.{Word}
use Rattle.vale_syntax.specs.declared.token.Sign.{Sign}
use Rattle.vale_syntax.specs.declared.token.Sign.TheVariants as s
use Rattle.vale_syntax.specs.declared.token.TokenKind.{TokenKind}
use Rattle.vale_syntax.specs.declared.token.TokenKind.TheVariants as k
use Rattle.vale_lexer.specs.declared.pieces.Piece.{Piece}
use Rattle.vale_lexer.specs.declared.pieces.Piece.TheVariants.{End, Blank, Comment, Token, Fault}
use Rattle.vale_lexer.specs.Next.{word_of, kind_by, name_kind, Scan, closed, quote_by, number_piece, next}
use Rattle.vale_lexer.proofs.Scans.{at_mark, Quoted-scan}
use Rattle.vale_lexer.proofs.Sorted.{letter_blank, digit_blank, digit_letter, word_name}
use Rattle.vale_lexer.proofs.WordLemmas.{word_self, no_word}
use Rattle.vale_lexer.proofs.Runs.{letter_name}

all_run : (p : ℕ → Bool) (xs : List ℕ) → Each p xs → prefix_len p xs ≡ length xs
all_run p [] each = refl
all_run p (x ∷ xs) each =
    let more = all_run p xs each.1 in
    rw each.0 (omega (arith, more))

take_all : (p : ℕ → Bool) (xs : List ℕ) → Each p xs → take (prefix_len p xs) xs ≡ xs
take_all p xs each = ap (λ (n : ℕ). take n xs) (all_run p xs each) ∙ take-length xs

pick_first : (t : Bool) (x y : Piece) → t ≡ true → cond t x y ≡ x
pick_first t x y e = ap (λ (z : Bool). cond z x y) e

pick_second : (t : Bool) (x y : Piece) → t ≡ false → cond t x y ≡ y
pick_second t x y e = ap (λ (z : Bool). cond z x y) e

name_by : (b : ℕ) (more : List ℕ) → is_letter b ≡ true → Each is_name_byte more → next (b ∷ more) ≡ Token (name_kind (b ∷ more)) (length (b ∷ more))
unfolding next
name_by b more is each =
    let all : Each is_name_byte (b ∷ more) = (letter_name b is, each) in
    pick_second (is_blank b) (Blank b) _ (letter_blank b is) ∙ (pick_first (is_letter b) _ _ is
    ∙ (ap (λ (xs : List ℕ). Token (name_kind xs) (prefix_len is_name_byte (b ∷ more))) (take_all is_name_byte (b ∷ more) all)
    ∙ ap (λ (n : ℕ). Token (name_kind (b ∷ more)) n) (all_run is_name_byte (b ∷ more) all)))

name_alone : (piece : List ℕ) → IsName piece → next piece ≡ Token (name_kind piece) (length piece)
name_alone piece (b, more, e, is, each) = subst (λ (xs : List ℕ). next xs ≡ Token (name_kind xs) (length xs)) (sym e) (name_by b more is each)

word_alone : (piece : List ℕ) (x : Word) → piece ≡ word_text x → next piece ≡ Token (k.Word x) (length piece)
word_alone piece x e =
    name_alone piece (subst IsName (sym e) (word_name x)) ∙ ap (λ o. Token (kind_by piece o) (length piece)) (ap word_of e ∙ word_self x)

digits_by : (b : ℕ) (more : List ℕ) → is_digit b ≡ true → Each is_digit more → next (b ∷ more) ≡ number_piece (b ∷ more)
unfolding next
digits_by b more is each =
    pick_second (is_blank b) (Blank b) _ (digit_blank b is) ∙ (pick_second (is_letter b) _ _ (digit_letter b is) ∙ (pick_first (is_digit b) _ _ is
    ∙ ap number_piece (take_all is_digit (b ∷ more) (is, each))))

digits_alone : (piece : List ℕ) → IsNumber piece → next piece ≡ number_piece piece
digits_alone [] (some, each) = absurd (omega arith)
digits_alone (b ∷ more) (some, each) = digits_by b more each.0 each.1

ltb_yes : (a b : ℕ) → a < b → ltb a b ≡ true
ltb_yes a b h = grind (arith, nat_tests)

ltb_not : (a b : ℕ) → b ≤ a → ltb a b ≡ false
ltb_not a b h = grind (arith, nat_tests)

leb_yes : (a b : ℕ) → a ≤ b → leb a b ≡ true
leb_yes a b h = grind (arith, nat_tests)

leb_not : (a b : ℕ) → b < a → leb a b ≡ false
leb_not a b h = grind (arith, nat_tests)

number_alone : (piece : List ℕ) → IsNumber piece → value piece < 2 ^ 63 → next piece ≡ Token (k.Number (pos (value piece))) (length piece)
number_alone piece is small = digits_alone piece is ∙ ap (λ (t : Bool). cond t (Token (k.Number (pos (value piece))) (length piece)) (Fault 3 0)) (ltb_yes (value piece) (2 ^ 63) small)

large_alone : (piece : List ℕ) → IsNumber piece → 2 ^ 63 ≤ value piece → next piece ≡ Fault 3 0
large_alone piece is large = digits_alone piece is ∙ ap (λ (t : Bool). cond t (Token (k.Number (pos (value piece))) (length piece)) (Fault 3 0)) (ltb_not (value piece) (2 ^ 63) large)

quote_by_alone : (inner text : List ℕ) → Quoted inner text → next (34 ∷ inner ++ 34 ∷ []) ≡ closed text (length (inner ++ 34 ∷ []) - 1)
unfolding next
quote_by_alone inner text q =
    ap (λ (s : Scan). quote_by s.text (length (inner ++ 34 ∷ []) - length s.rest) s.rest) (Quoted-scan q (34 ∷ []) (at_mark [] refl))

quote_alone : (piece text : List ℕ) → IsQuote piece text → (n : ℕ) × (next piece ≡ closed text n)
quote_alone piece text (inner, e, q) = (length (inner ++ 34 ∷ []) - 1, ap next e ∙ quote_by_alone inner text q)

sign_alone : (x : Sign) → next (sign_text x) ≡ Token (k.Sign x) (length (sign_text x))
unfolding next
sign_alone s.OpenBrace = refl
sign_alone x = refl

-- a token alone is found
Means-alone : (piece : List ℕ) (kind : TokenKind) → Means piece kind → (n : ℕ) × (next piece ≡ Token kind n)
Means-alone piece (k.Word x) h = (length piece, word_alone piece x h)
Means-alone piece (k.Name text) (is, none, e) =
    (length piece, name_alone piece is ∙ (ap (λ o. Token (kind_by piece o) (length piece)) (no_word piece none) ∙ ap (λ (z : List ℕ). Token (k.Name z) (length piece)) (sym e)))
Means-alone piece (k.Number n) (is, small, e) = (length piece, number_alone piece is small ∙ ap (λ z. Token (k.Number z) (length piece)) (sym e))
Means-alone piece (k.Quote text) (is, short) =
    let (n, found) = quote_alone piece text is in
    (n + 2, found ∙ ap (λ (t : Bool). cond t (Token (k.Quote text) (n + 2)) (Fault 3 0)) (leb_yes (length text) text_limit short))
Means-alone piece (k.Sign x) h = (length (sign_text x), ap next h ∙ sign_alone x)

IsTooLarge-alone : (piece : List ℕ) → IsTooLarge piece → next piece ≡ Fault 3 0
IsTooLarge-alone piece (large_number is large) = large_alone piece is large
IsTooLarge-alone piece (long_quote text is long) =
    let (n, found) = quote_alone piece text is in
    found ∙ ap (λ (t : Bool). cond t (Token (k.Quote text) (n + 2)) (Fault 3 0)) (leb_not (length text) text_limit long)

abbrev is_gap : Piece → Bool
is_gap End = false
is_gap (Blank b) = true
is_gap (Comment n) = true
is_gap (Token kind n) = false
is_gap (Fault code n) = false

blank_alone : (b : ℕ) → is_blank b ≡ true → is_gap (next (b ∷ [])) ≡ true
unfolding next
blank_alone b is = rw is refl

comment_alone : (body : List ℕ) → is_gap (next (47 ∷ 47 ∷ body)) ≡ true
unfolding next
comment_alone body = refl

IsGap-alone : (piece : List ℕ) → IsGap piece → is_gap (next piece) ≡ true
IsGap-alone piece (inl (b, e, is)) = ap (λ (z : List ℕ). is_gap (next z)) e ∙ blank_alone b is
IsGap-alone piece (inr (body, e, each)) = ap (λ (z : List ℕ). is_gap (next z)) e ∙ comment_alone body

-- ---- no piece is two things

token_is : (a b : TokenKind) (m n : ℕ) → Token a m ≡ Token b n → a ≡ b
token_is a b m n e = cc

token_fault : (a : TokenKind) (m c n : ℕ) → Token a m ≡ Fault c n → ⊥
token_fault a m c n e = cc

pub one_kind : (piece : List ℕ) (a b : TokenKind) → Means piece a → Means piece b → a ≡ b
one_kind piece a b f g =
    let (m, x) = Means-alone piece a f in
    let (n, y) = Means-alone piece b g in
    token_is a b m n (sym x ∙ y)

false_true : false ≡ true → ⊥
false_true e = cc

pub gap_or_token : (piece : List ℕ) (a : TokenKind) → IsGap piece → Means piece a → ⊥
gap_or_token piece a g f =
    let (m, x) = Means-alone piece a f in
    false_true (sym (ap is_gap x) ∙ IsGap-alone piece g)

pub gap_or_large : (piece : List ℕ) → IsGap piece → IsTooLarge piece → ⊥
gap_or_large piece g l = false_true (sym (ap is_gap (IsTooLarge-alone piece l)) ∙ IsGap-alone piece g)

pub token_or_large : (piece : List ℕ) (a : TokenKind) → Means piece a → IsTooLarge piece → ⊥
token_or_large piece a f l =
    let (m, x) = Means-alone piece a f in
    token_fault a m 3 0 (sym x ∙ IsTooLarge-alone piece l)
