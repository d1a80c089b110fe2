-- Pieces that stand apart: none runs on into the one after it.
use Rattle.std.specs.Prelude.{◌≡◌, Bool, true, false, List, [], ◌∷◌}
use Rattle.vale_syntax.specs.declared.token.TokenKind.{TokenKind}
use Rattle.vale_syntax.specs.declared.token.TokenKind.TheVariants as k
use Rattle.vale_syntax.specs.declared.token.Sign.TheVariants as s
use Rattle.vale_syntax.specs.Layout.{Piece, lexeme, space, line}

-- names, words and numbers, which run on into one another
abbrev pub is_wordy : TokenKind → Bool
is_wordy (k.Word w) = true
is_wordy (k.Name text) = true
is_wordy (k.Number n) = true
is_wordy (k.Quote text) = false
is_wordy (k.Sign s) = false

-- the signs that begin a longer piece
abbrev pub is_short : TokenKind → Bool
is_short (k.Sign s.Dot) = true
is_short (k.Sign s.Bang) = true
is_short (k.Sign s.Assign) = true
is_short (k.Sign s.Less) = true
is_short (k.Sign s.Greater) = true
is_short (k.Sign s.Slash) = true
is_short _ = false

abbrev pub is_sign : TokenKind → Bool
is_sign (k.Sign s) = true
is_sign _ = false

abbrev pub begins_wordy : List Piece → Bool
begins_wordy (lexeme kind ∷ ps) = is_wordy kind
begins_wordy _ = false

abbrev pub begins_sign : List Piece → Bool
begins_sign (lexeme kind ∷ ps) = is_sign kind
begins_sign _ = false

-- no name, word or number before another, and no sign that begins a longer piece before a sign
abbrev pub Apart : List Piece → Type 0
Apart [] = Unit {0}
Apart (lexeme kind ∷ ps) = (is_wordy kind ≡ true → begins_wordy ps ≡ false) × (is_short kind ≡ true → begins_sign ps ≡ false) × Apart ps
Apart (space ∷ ps) = Apart ps
Apart (line d ∷ ps) = Apart ps
