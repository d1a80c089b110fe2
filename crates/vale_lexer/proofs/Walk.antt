-- Texts are cut by computation: so what the definition says of a text can be seen.
use Rattle.std.proofs.Common.{◌≡◌, ℕ, zero, suc, List, [], ◌∷◌, ◌++◌, drop, refl}
use Rattle.vale_base.specs.declared.spot.Spot.{Spot}
use Rattle.vale_syntax.specs.Cut.{step, start, cut, LexFaultAt}
use Rattle.vale_syntax.specs.declared.token.Token.{Token}
use Rattle.vale_lexer.specs.declared.pieces.Piece.{Piece}
use Rattle.vale_lexer.specs.declared.pieces.Piece.TheVariants as p
use Rattle.vale_lexer.specs.Next.{next}
use Rattle.vale_lexer.proofs.Goes.{Goes, along, Goes-start, Goes-blank, Goes-comment, Goes-token, Goes-end, Goes-fault}

-- what some steps through a text come to
pub data Walk : Type 0 where
  done : List Token → Spot → Walk
  wrong : ℕ → Spot → Walk
  tired : Walk

abbrev walk_by : (List Token → Spot → List ℕ → Walk) → List Token → Spot → List ℕ → Piece → Walk
walk_by more list at rest p.End = done list at
walk_by more list at rest (p.Blank b) = more list (step at b) (drop 1 rest)
walk_by more list at rest (p.Comment n) = more list (along at n) (drop n rest)
walk_by more list at rest (p.Token kind n) = more (list ++ (record { kind = kind; at = at }) ∷ []) (along at n) (drop n rest)
walk_by more list at rest (p.Fault code n) = wrong code (along at n)

-- so many steps from a place
abbrev pub walk : ℕ → List Token → Spot → List ℕ → Walk
walk zero list at rest = tired
walk (suc n) list at rest = walk_by (walk n) list at rest (next rest)

abbrev pub Says : List ℕ → Walk → Type 0
Says text (done list end) = cut text (record { list = list; end = end })
Says text (wrong code at) = LexFaultAt text code at
Says text tired = Unit {0}

says_by : (text : List ℕ) (more : List Token → Spot → List ℕ → Walk) (list : List Token) (at : Spot) (rest : List ℕ) (x : Piece) → x ≡ next rest
    → ((l : List Token) (a : Spot) (r : List ℕ) → Goes text l a r → Says text (more l a r)) → Goes text list at rest → Says text (walk_by more list at rest x)
says_by text more list at rest p.End e h goes = Goes-end text list at rest goes e
says_by text more list at rest (p.Blank b) e h goes = h list (step at b) (drop 1 rest) (Goes-blank text list at rest b goes e).goes
says_by text more list at rest (p.Comment n) e h goes = h list (along at n) (drop n rest) (Goes-comment text list at rest n goes e).goes
says_by text more list at rest (p.Token kind n) e h goes =
    let t : Token = record { kind = kind; at = at } in
    h (list ++ t ∷ []) (along at n) (drop n rest) (Goes-token text list at rest n t goes e refl).goes
says_by text more list at rest (p.Fault code n) e h goes = (Goes-fault text list at rest code n goes e).fault

goes_says : (text : List ℕ) (n : ℕ) (list : List Token) (at : Spot) (rest : List ℕ) → Goes text list at rest → Says text (walk n list at rest)
goes_says text zero list at rest goes = tt
goes_says text (suc n) list at rest goes = says_by text (walk n) list at rest (next rest) refl (λ l a r g. goes_says text n l a r g) goes

-- what a walk through the whole text comes to is so
pub walked : (n : ℕ) (text : List ℕ) → Says text (walk n [] start text)
walked n text = goes_says text n [] start text (Goes-start text)
