-- Pieces that stand apart are cut into their tokens.
use Rattle.std.proofs.Common.{◌≡◌, ◌*◌, ℕ, zero, suc, true, false, eqb, List, [], ◌∷◌, ◌++◌, inl, replicate, refl, sym, ap, subst, arith}
use Rattle.std.proofs.lemmas.Bool.Decides.{nat_tests}
use Rattle.vale_base.specs.declared.spot.Spot.{Spot}
use Rattle.vale_syntax.specs.Bytes.{is_blank, is_letter, is_digit, is_name_byte, word_text, sign_text}
use Rattle.vale_syntax.specs.Canon.{text_of, rendered}
use Rattle.vale_syntax.specs.Cut.{IsName, IsNumber, Means, step, behind, Cuts, none, gap, token}
use Rattle.vale_syntax.specs.Layout.{Piece, lexeme, space, line}
use Rattle.vale_syntax.specs.Moved.{kinds}
use Rattle.vale_syntax.specs.declared.token.Sign.{Sign}
use Rattle.vale_syntax.specs.declared.token.Sign.TheVariants as s
use Rattle.vale_syntax.specs.declared.token.Token.{Token}
use Rattle.vale_syntax.specs.declared.token.TokenKind.{TokenKind}
use Rattle.vale_syntax.specs.declared.token.TokenKind.TheVariants as k
use Rattle.vale_lexer.proofs.Sorted.{word_name}
use Rattle.vale_lexer.proofs.Tells.{blank_longest}
use Rattle.vale_printer.proofs.Apart.{begins_wordy, begins_sign, Apart}
use Rattle.vale_printer.proofs.Lays.{laid}
use Rattle.vale_format.proofs.Lexemes.{means_again, StopsAt, NoMore, lexeme_longest}

-- each of the tokens is what its canonical text means
abbrev pub AllMeant : List TokenKind → Type 0
AllMeant [] = Unit {0}
AllMeant (kind ∷ ks) = Means (text_of kind) kind × AllMeant ks

-- a text's tokens are
pub cut_meant : {at end : Spot} {text rest : List ℕ} {ts : List Token} → Cuts at text ts end rest → AllMeant (kinds ts)
cut_meant none = tt
cut_meant (gap piece after e g lg more) = cut_meant more
cut_meant (token {t = t} piece after e m lg s more) = (means_again piece t.kind m, cut_meant more)

-- ---- the first byte of a layout

sign_stops : (x : Sign) (rest : List ℕ) → StopsAt is_name_byte (sign_text x ++ rest)
sign_stops s.OpenBrace rest = refl
sign_stops x rest = refl

false_true : {C : Type 0} → true ≡ false → C
false_true e = absurd cc

name_stops : (ps : List Piece) → begins_wordy ps ≡ false → StopsAt is_name_byte (rendered ps)
name_stops [] h = tt
name_stops (space ∷ ps) h = refl
name_stops (line d ∷ ps) h = refl
name_stops (lexeme (k.Sign x) ∷ ps) h = sign_stops x (rendered ps)
name_stops (lexeme (k.Quote text) ∷ ps) h = refl
name_stops (lexeme (k.Word x) ∷ ps) h = false_true h
name_stops (lexeme (k.Name text) ∷ ps) h = false_true h
name_stops (lexeme (k.Number n) ∷ ps) h = false_true h

letter_no_more : (b : ℕ) → is_letter b ≡ true → (eqb b 46 ≡ false) × (eqb b 61 ≡ false) × (eqb b 47 ≡ false)
letter_no_more b h = (grind (arith, nat_tests), grind (arith, nat_tests), grind (arith, nat_tests))

digit_no_more : (b : ℕ) → is_digit b ≡ true → (eqb b 46 ≡ false) × (eqb b 61 ≡ false) × (eqb b 47 ≡ false)
digit_no_more b h = (grind (arith, nat_tests), grind (arith, nat_tests), grind (arith, nat_tests))

name_no_more : (text rest : List ℕ) → IsName text → NoMore (text ++ rest)
name_no_more text rest (b, more, e, is, each) = subst (λ (z : List ℕ). NoMore (z ++ rest)) (sym e) (letter_no_more b is)

number_no_more : (text rest : List ℕ) → IsNumber text → NoMore (text ++ rest)
number_no_more [] rest (some, each) = absurd (omega arith)
number_no_more (b ∷ text) rest (some, each) = digit_no_more b each.0

no_more : (ps : List Piece) → AllMeant (laid ps []) → begins_sign ps ≡ false → NoMore (rendered ps)
unfolding laid
no_more [] m h = tt
no_more (space ∷ ps) m h = (refl, refl, refl)
no_more (line d ∷ ps) m h = (refl, refl, refl)
no_more (lexeme (k.Word x) ∷ ps) m h = name_no_more (word_text x) (rendered ps) (word_name x)
no_more (lexeme (k.Name text) ∷ ps) m h = name_no_more text (rendered ps) m.0.0
no_more (lexeme (k.Number n) ∷ ps) m h = number_no_more (text_of (k.Number n)) (rendered ps) m.0.0
no_more (lexeme (k.Quote text) ∷ ps) m h = (refl, refl, refl)
no_more (lexeme (k.Sign x) ∷ ps) m h = false_true h

-- ---- the cutting

-- the text is cut into tokens of these kinds
pub record Renders (at : Spot) (text : List ℕ) (ks : List TokenKind) : Type 0 where
  pub tokens : List Token
  pub end : Spot
  pub cuts : Cuts at text tokens end []
  pub same : kinds tokens ≡ ks

blank_renders : (at : Spot) (b : ℕ) (text : List ℕ) (ks : List TokenKind) → is_blank b ≡ true → Renders (step at b) text ks → Renders at (b ∷ text) ks
blank_renders at b text ks is r = record { tokens = r.tokens; end = r.end; cuts = gap (b ∷ []) text refl (inl (b, refl, is)) (blank_longest b text is) r.cuts; same = r.same }

spaces_render : (n : ℕ) (text : List ℕ) (ks : List TokenKind) → ((at : Spot) → Renders at text ks) → (at : Spot) → Renders at (replicate n 32 ++ text) ks
spaces_render zero text ks h at = h at
spaces_render (suc n) text ks h at = blank_renders at 32 (replicate n 32 ++ text) ks refl (spaces_render n text ks h (step at 32))

pub renders : (ps : List Piece) → Apart ps → AllMeant (laid ps []) → (at : Spot) → Renders at (rendered ps) (laid ps [])
unfolding laid
renders [] a m at = record { tokens = []; end = at; cuts = none; same = refl }
renders (space ∷ ps) a m at = blank_renders at 32 (rendered ps) (laid ps []) refl (renders ps a m (step at 32))
renders (line d ∷ ps) a m at = blank_renders at 10 (replicate (2 * d) 32 ++ rendered ps) (laid ps []) refl (spaces_render (2 * d) (rendered ps) (laid ps []) (λ here. renders ps a m here) (step at 10))
renders (lexeme kind ∷ ps) (wordy, short, a) (m, ms) at =
    let r = renders ps a ms (behind at (text_of kind)) in
    let t : Token = record { kind = kind; at = at } in
    let longest = lexeme_longest kind (rendered ps) m (λ e. name_stops ps (wordy e)) (λ e. no_more ps ms (short e)) in
    record { tokens = t ∷ r.tokens; end = r.end; cuts = token {t = t} (text_of kind) (rendered ps) refl m longest refl r.cuts; same = ap (λ (z : List TokenKind). kind ∷ z) r.same }
