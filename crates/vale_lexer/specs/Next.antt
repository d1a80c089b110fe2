-- What begins a text, byte by byte.
use Rattle.std.specs.Prelude.{ℕ, ◌+◌, ◌-◌, ◌^◌, ◌==◌, ◌&&◌, nat_le, nat_lt, Bool, false, ℤ, pos, List, [], ◌∷◌, ◌++◌, Option, None, Some, length, take, if◌then◌else◌}
use Rattle.std.specs.List.{find, prefix_len}
use Rattle.std.specs.Str.{bytes_eq}
use Rattle.vale_base.specs.Limits.{text_limit}
use Rattle.vale_syntax.specs.Bytes.{is_blank, is_letter, is_digit, is_name_byte, is_comment_byte, is_plain, escape_of, value, word_text}
use Rattle.vale_syntax.specs.declared.token.Word.{Word}
use Rattle.vale_syntax.specs.declared.token.Word.TheVariants as w
use Rattle.vale_syntax.specs.declared.token.Sign.{Sign}
use Rattle.vale_syntax.specs.declared.token.Sign.TheVariants as s
use Rattle.vale_syntax.specs.declared.token.TokenKind.{TokenKind}
use Rattle.vale_syntax.specs.declared.token.TokenKind.TheVariants as k
use Rattle.vale_lexer.specs.declared.pieces.Piece.{Piece}
use Rattle.vale_lexer.specs.declared.pieces.Piece.TheVariants.{End, Blank, Comment, Token, Fault}

-- ---- words and names

abbrev pub words : List Word
words = w.Func ∷ w.Pure ∷ w.Struct ∷ w.Interface ∷ w.Impl ∷ w.For ∷ w.Iso ∷ w.Imm ∷ w.Set ∷ w.Return ∷ w.If ∷ w.Else ∷ w.While ∷ w.Foreach ∷ w.In ∷ w.Parallel ∷ w.Merge ∷ w.And ∷ w.Or ∷ w.Not ∷ w.True ∷ w.False ∷ w.Int ∷ w.Bool ∷ w.Str ∷ []

unfoldable pub word_of : List ℕ → Option Word
word_of name = find (λ w. bytes_eq (word_text w) name) words

abbrev pub kind_by : List ℕ → Option Word → TokenKind
kind_by name None = k.Name name
kind_by name (Some w) = k.Word w

abbrev pub name_kind : List ℕ → TokenKind
name_kind name = kind_by name (word_of name)

-- ---- signs

abbrev pub one_sign : ℕ → Option Sign
one_sign b =
    if b == 123 then Some s.OpenBrace
    else if b == 125 then Some s.CloseBrace
    else if b == 40 then Some s.OpenParen
    else if b == 41 then Some s.CloseParen
    else if b == 91 then Some s.OpenBracket
    else if b == 93 then Some s.CloseBracket
    else if b == 44 then Some s.Comma
    else if b == 59 then Some s.Semicolon
    else if b == 46 then Some s.Dot
    else if b == 33 then Some s.Bang
    else if b == 38 then Some s.Ampersand
    else if b == 61 then Some s.Assign
    else if b == 60 then Some s.Less
    else if b == 62 then Some s.Greater
    else if b == 43 then Some s.Plus
    else if b == 45 then Some s.Minus
    else if b == 42 then Some s.Star
    else if b == 47 then Some s.Slash
    else if b == 37 then Some s.Percent
    else None

abbrev pub two_sign : ℕ → ℕ → Option Sign
two_sign b c =
    if b == 46 && c == 46 then Some s.DotDot
    else if b == 61 && c == 61 then Some s.Equal
    else if b == 33 && c == 61 then Some s.NotEqual
    else if b == 60 && c == 61 then Some s.LessEqual
    else if b == 62 && c == 61 then Some s.GreaterEqual
    else None

abbrev pub sign_at : Option Sign → ℕ → Piece → Piece
sign_at None n other = other
sign_at (Some x) n other = Token (k.Sign x) n

abbrev pub sign_piece : ℕ → List ℕ → Piece
sign_piece b [] = sign_at (one_sign b) 1 (Fault 2 0)
sign_piece b (c ∷ more) = sign_at (two_sign b c) 2 (sign_at (one_sign b) 1 (Fault 2 0))

-- ---- numbers

abbrev pub number_of : List ℕ → Option ℤ
number_of digits = if nat_lt (value digits) (2 ^ 63) then Some (pos (value digits)) else None

abbrev pub number_piece : List ℕ → Piece
number_piece digits = if nat_lt (value digits) (2 ^ 63) then Token (k.Number (pos (value digits))) (length digits) else Fault 3 0

-- ---- quotes

abbrev pub meant : Option ℕ → Option (ℕ × ℕ)
meant None = None
meant (Some b) = Some (b, 2)

-- the byte that the front stands for in a quote, and how many bytes it takes
abbrev pub part_of : List ℕ → Option (ℕ × ℕ)
part_of [] = None
part_of (b ∷ []) = if is_plain b then Some (b, 1) else None
part_of (b ∷ c ∷ more) = if is_plain b then Some (b, 1) else if b == 92 then meant (escape_of c) else None

-- the longest front that may stand in a quote, the bytes that it stands for, and what is after it
pub record Scan : Type 0 where
  pub inner : List ℕ
  pub text : List ℕ
  pub rest : List ℕ

abbrev pub stopped : List ℕ → Scan
stopped rest = record { inner = []; text = []; rest = rest }

abbrev pub with_part : List ℕ → ℕ → Scan → Scan
with_part part b s = record { inner = part ++ s.inner; text = b ∷ s.text; rest = s.rest }

abbrev pub escaped : ℕ → List ℕ → Option ℕ → Scan → Scan
escaped c more None s = stopped (92 ∷ c ∷ more)
escaped c more (Some b) s = with_part (92 ∷ c ∷ []) b s

unfoldable pub scan : List ℕ → Scan
scan [] = stopped []
scan (b ∷ []) = if is_plain b then with_part (b ∷ []) b (stopped []) else stopped (b ∷ [])
scan (b ∷ c ∷ more) =
    if is_plain b then with_part (b ∷ []) b (scan (c ∷ more))
    else if b == 92 then escaped c more (escape_of c) (scan more)
    else stopped (b ∷ c ∷ more)

abbrev pub closed : List ℕ → ℕ → Piece
closed text inner = if nat_le (length text) text_limit then Token (k.Quote text) (inner + 2) else Fault 3 0

abbrev pub quote_by : List ℕ → ℕ → List ℕ → Piece
quote_by text inner [] = Fault 4 0
quote_by text inner (b ∷ more) = if b == 34 then closed text inner else if b == 92 then Fault 2 (inner + 1) else Fault 4 0

-- these bytes are after a `"`
abbrev pub quote_piece : List ℕ → Piece
quote_piece bytes = quote_by (scan bytes).text (length bytes - length (scan bytes).rest) (scan bytes).rest

-- ---- whatever comes

-- a comment begins with this byte and those
abbrev pub is_comment : ℕ → List ℕ → Bool
is_comment b [] = false
is_comment b (c ∷ more) = b == 47 && c == 47

unfoldable pub next : List ℕ → Piece
next [] = End
next (b ∷ more) =
    if is_blank b then Blank b
    else if is_letter b then Token (name_kind (take (prefix_len is_name_byte (b ∷ more)) (b ∷ more))) (prefix_len is_name_byte (b ∷ more))
    else if is_digit b then number_piece (take (prefix_len is_digit (b ∷ more)) (b ∷ more))
    else if b == 34 then quote_piece more
    else if is_comment b more then Comment (prefix_len is_comment_byte (b ∷ more))
    else sign_piece b more
