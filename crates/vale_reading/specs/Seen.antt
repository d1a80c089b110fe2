-- The names of a program, as a set that keeps the order of first sight.
use Rattle.std.specs.Prelude.{ℕ, List, [], ◌∷◌, ◌++◌, map, if◌then◌else◌}
use Rattle.std.specs.List.{list_any}
use Rattle.std.specs.Str.{bytes_eq}
use Rattle.std.specs.Borrow.{Bor}
use Rattle.vale_syntax.specs.declared.token.Token.{Token}
use Rattle.vale_syntax.specs.declared.token.TokenKind.{TokenKind}
use Rattle.vale_syntax.specs.declared.token.TokenKind.TheVariants as k

-- the texts that the slices hold
abbrev pub nows : List (Bor (List ℕ)) → List (List ℕ)
nows ks = map (λ k. k.now) ks

-- the texts after one more is seen
abbrev pub seen : List (List ℕ) → List ℕ → List (List ℕ)
seen ks x = if list_any (bytes_eq x) ks then ks else ks ++ x ∷ []

abbrev pub seen_kind : List (List ℕ) → TokenKind → List (List ℕ)
seen_kind ks (k.Name text) = seen ks text
seen_kind ks _ = ks

-- the texts after more tokens are seen
abbrev pub seen_in : List (List ℕ) → List Token → List (List ℕ)
seen_in ks [] = ks
seen_in ks (t ∷ ts) = seen_in (seen_kind ks t.kind) ts
