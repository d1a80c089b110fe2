-- The canonical text of a tree (docs/LANGUAGE.md, "Canonical text").
use Rattle.std.specs.Prelude.{ℕ, ◌*◌, ◌==◌, List, [], ◌∷◌, ◌++◌, replicate, flat_map, if◌then◌else◌}
use Rattle.std.specs.Fmt.{signed_decimal}
use Rattle.vale_syntax.specs.declared.token.TokenKind.{TokenKind}
use Rattle.vale_syntax.specs.declared.token.TokenKind.TheVariants as k
use Rattle.vale_syntax.specs.Bytes.{word_text, sign_text}
use Rattle.vale_syntax.specs.Layout.{Piece, lexeme, space, line, lay_tree}
use Rattle.vale_syntax.specs.Tree.{Tree}

-- a byte of a quote's text: a line feed, a tab, a `\` and a `"` by their escapes, every other as it is
abbrev pub escaped : ℕ → List ℕ
escaped b = if b == 10 then 92 ∷ 110 ∷ [] else if b == 9 then 92 ∷ 116 ∷ [] else if b == 92 then 92 ∷ 92 ∷ [] else if b == 34 then 92 ∷ 34 ∷ [] else b ∷ []

abbrev pub all_escaped : List ℕ → List ℕ
all_escaped text = flat_map escaped text

-- a token's bytes: a number has no leading zeros
abbrev pub text_of : TokenKind → List ℕ
text_of (k.Word w) = word_text w
text_of (k.Name text) = text
text_of (k.Number n) = signed_decimal n
text_of (k.Quote text) = 34 ∷ all_escaped text ++ 34 ∷ []
text_of (k.Sign s) = sign_text s

-- a piece's bytes: a line has two spaces for each depth
abbrev pub piece_text : Piece → List ℕ
piece_text (lexeme kind) = text_of kind
piece_text space = 32 ∷ []
piece_text (line d) = 10 ∷ replicate (2 * d) 32

abbrev pub rendered : List Piece → List ℕ
rendered ps = flat_map piece_text ps

abbrev pub canon : Tree → List ℕ
canon t = rendered (lay_tree t)
