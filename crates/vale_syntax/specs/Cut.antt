-- How a text is cut: from its first byte into the longest pieces, each of them a blank, a comment or a token
-- (docs/LANGUAGE.md, "Tokens").
use Rattle.std.specs.Prelude.{ℕ, ◌+◌, ◌<◌, ◌≤◌, ◌^◌, ◌≡◌, ◌≢◌, ◌==◌, true, pos, List, [], ◌∷◌, ◌++◌, ◌⊎◌, length, codes, None, Some, if◌then◌else◌}
use Rattle.vale_base.specs.Limits.{text_limit}
use Rattle.vale_base.specs.declared.spot.Spot.{Spot}
use Rattle.vale_syntax.specs.Bytes.{is_blank, is_letter, is_digit, is_name_byte, is_comment_byte, is_plain, escape_of, Each, value, word_text, sign_text}
use Rattle.vale_syntax.specs.declared.token.Word.{Word}
use Rattle.vale_syntax.specs.declared.token.Sign.{Sign}
use Rattle.vale_syntax.specs.declared.token.TokenKind.{TokenKind}
use Rattle.vale_syntax.specs.declared.token.TokenKind.TheVariants as k
use Rattle.vale_syntax.specs.declared.token.Token.{Token}
use Rattle.vale_syntax.specs.declared.token.Tokens.{Tokens}

-- ---- pieces

-- a space, a tab, a carriage return or a line feed, alone
abbrev pub IsBlank : List ℕ → Type 0
IsBlank piece = (b : ℕ) × (piece ≡ b ∷ []) × (is_blank b ≡ true)

-- `//` and bytes that are no line feed
abbrev pub IsComment : List ℕ → Type 0
IsComment piece = (body : List ℕ) × (piece ≡ codes "//" ++ body) × Each is_comment_byte body

-- a name or a word: a letter or `_`, then letters, digits and `_`
abbrev pub IsName : List ℕ → Type 0
IsName piece = (first : ℕ) × (more : List ℕ) × (piece ≡ first ∷ more) × (is_letter first ≡ true) × Each is_name_byte more

-- digits, at least one
abbrev pub IsNumber : List ℕ → Type 0
IsNumber piece = (0 < length piece) × Each is_digit piece

-- What stands between the marks of a quote, and the text that it stands for.
pub data Quoted : List ℕ → List ℕ → Type 0 where
  empty : Quoted [] []
  plain : {b : ℕ} {inner text : List ℕ} → is_plain b ≡ true → Quoted inner text → Quoted (b ∷ inner) (b ∷ text)
  escape : {c b : ℕ} {inner text : List ℕ} → escape_of c ≡ Some b → Quoted inner text → Quoted (92 ∷ c ∷ inner) (b ∷ text)

-- a whole quote of the text, however long
abbrev pub IsQuote : List ℕ → List ℕ → Type 0
IsQuote piece text = (inner : List ℕ) × (piece ≡ 34 ∷ inner ++ 34 ∷ []) × Quoted inner text

-- what has the form of a blank, a comment or a token; a number and a quote that are too large have it too
pub data IsPiece (piece : List ℕ) : Type 0 where
  blank : IsBlank piece → IsPiece piece
  comment : IsComment piece → IsPiece piece
  name : IsName piece → IsPiece piece
  number : IsNumber piece → IsPiece piece
  quote : (text : List ℕ) → IsQuote piece text → IsPiece piece
  sign : (s : Sign) → piece ≡ sign_text s → IsPiece piece

-- nothing at the front of these bytes that has the form of a piece is longer than the piece
abbrev pub IsLongest : List ℕ → List ℕ → Type 0
IsLongest piece after = (front back : List ℕ) → piece ++ after ≡ front ++ back → IsPiece front → length front ≤ length piece

-- the piece is a blank or a comment, which is no token
abbrev pub IsGap : List ℕ → Type 0
IsGap piece = IsBlank piece ⊎ IsComment piece

-- the piece is this token
abbrev pub Means : List ℕ → TokenKind → Type 0
Means piece (k.Word w) = piece ≡ word_text w
Means piece (k.Name text) = IsName piece × ((w : Word) → piece ≢ word_text w) × (text ≡ piece)
Means piece (k.Number n) = IsNumber piece × (value piece < 2 ^ 63) × (n ≡ pos (value piece))
Means piece (k.Quote text) = IsQuote piece text × (length text ≤ text_limit)
Means piece (k.Sign s) = piece ≡ sign_text s

-- the piece is a number that is no int, or a quote of a text that is too long
pub data IsTooLarge (piece : List ℕ) : Type 0 where
  large_number : IsNumber piece → 2 ^ 63 ≤ value piece → IsTooLarge piece
  long_quote : (text : List ℕ) → IsQuote piece text → text_limit < length text → IsTooLarge piece

-- ---- spots

abbrev pub start : Spot
start = record { line = 1; col = 1 }

-- the spot after a byte
abbrev pub step : Spot → ℕ → Spot
step at b = if b == 10 then record { line = at.line + 1; col = 1 } else record { line = at.line; col = at.col + 1 }

-- the spot after these bytes
abbrev pub behind : Spot → List ℕ → Spot
behind at [] = at
behind at (b ∷ bytes) = behind (step at b) bytes

-- ---- the cutting

-- `Cuts at text tokens end rest`: the text, which begins at the spot `at`, is cut into pieces up to the spot `end`,
-- from which on it is `rest`; the tokens are those of its pieces that are no blanks and no comments.
pub data Cuts : Spot → List ℕ → List Token → Spot → List ℕ → Type 0 where
  none : {at : Spot} {text : List ℕ} → Cuts at text [] at text
  gap : {at end : Spot} {text rest : List ℕ} {tokens : List Token} (piece after : List ℕ)
      → text ≡ piece ++ after → IsGap piece → IsLongest piece after
      → Cuts (behind at piece) after tokens end rest
      → Cuts at text tokens end rest
  token : {at end : Spot} {text rest : List ℕ} {t : Token} {tokens : List Token} (piece after : List ℕ)
      → text ≡ piece ++ after → Means piece t.kind → IsLongest piece after → t.at ≡ at
      → Cuts (behind at piece) after tokens end rest
      → Cuts at text (t ∷ tokens) end rest

-- the whole text is cut into these tokens, and ends at their end
abbrev pub cut : List ℕ → Tokens → Type 0
cut text tokens = Cuts start text tokens.list tokens.end []

-- ---- faults

-- these bytes are at a line feed or at the end
abbrev pub EndsLine : List ℕ → Type 0
EndsLine [] = Unit {0}
EndsLine (b ∷ more) = b ≡ 10

-- these bytes, after a `\`, begin no escape
abbrev pub BeginsNoEscape : List ℕ → Type 0
BeginsNoEscape [] = Unit {0}
BeginsNoEscape (c ∷ more) = escape_of c ≡ None

-- `IsWrong from rest code at`: the bytes `rest`, which begin at the spot `from`, begin with the fault of this code,
-- whose spot is `at`.
pub data IsWrong (from : Spot) (rest : List ℕ) : ℕ → Spot → Type 0 where
  -- a byte that begins no piece
  no_token : (b : ℕ) (more : List ℕ) → rest ≡ b ∷ more → ((piece : List ℕ) → IsPiece (b ∷ piece) → ⊥) → IsWrong from rest 2 from
  -- a `\` in a quote that begins no escape
  no_escape : (inner text more : List ℕ) → rest ≡ 34 ∷ inner ++ 92 ∷ more → Quoted inner text → BeginsNoEscape more
      → IsWrong from rest 2 (behind from (34 ∷ inner))
  -- a number that is too large, or a whole quote whose text is too long
  too_large : (piece after : List ℕ) → rest ≡ piece ++ after → IsTooLarge piece → IsLongest piece after → IsWrong from rest 3 from
  -- a quote that a line feed or the end comes upon
  no_end : (inner text more : List ℕ) → rest ≡ 34 ∷ inner ++ more → Quoted inner text → EndsLine more → IsWrong from rest 4 from

-- The text's first fault has this code and spot: the text is cut into pieces up to a place, and what begins there is wrong.
pub record LexFaultAt (text : List ℕ) (code : ℕ) (at : Spot) : Type 0 where
  pub before : List Token
  pub from : Spot
  pub rest : List ℕ
  pub cuts : Cuts start text before from rest
  pub wrong : IsWrong from rest code at
