-- The layout of a part has the tokens that spell it.
use Rattle.std.proofs.Common.{◌≡◌, ℕ, zero, suc, Bool, true, false, List, [], ◌∷◌, ◌++◌, Option, None, Some, refl, sym, ap, ◌∙◌}
use Rattle.vale_base.specs.declared.spot.Spot.{Spot}
use Rattle.vale_syntax.specs.declared.token.Token.{Token}
use Rattle.vale_syntax.specs.declared.token.TokenKind.{TokenKind}
use Rattle.vale_syntax.specs.declared.token.Sign.{Sign}
use Rattle.vale_syntax.specs.declared.token.Sign.TheVariants as s
use Rattle.vale_syntax.specs.declared.token.Word.{Word}
use Rattle.vale_syntax.specs.Grammar.{Part, one, sign, word, nothing, when, optional, each, with_commas, deeper, ◌▸◌, ◌⊳◌}
use Rattle.vale_syntax.specs.Layout as l
use Rattle.vale_syntax.specs.Layout.{Piece, lexeme, space, line, Layout, put, mark, key, gap, new_line, around}
use Rattle.vale_syntax.specs.Moved.{kinds}

-- the kinds of the layout's tokens, before these
unfoldable pub laid : Layout → List TokenKind → List TokenKind
laid [] ks = ks
laid (lexeme kind ∷ ps) ks = kind ∷ laid ps ks
laid (space ∷ ps) ks = laid ps ks
laid (line d ∷ ps) ks = laid ps ks

pub laid_append : (p q : Layout) (ks : List TokenKind) → laid (p ++ q) ks ≡ laid p (laid q ks)
unfolding laid
laid_append [] q ks = refl
laid_append (lexeme kind ∷ ps) q ks = ap (λ (z : List TokenKind). kind ∷ z) (laid_append ps q ks)
laid_append (space ∷ ps) q ks = laid_append ps q ks
laid_append (line d ∷ ps) q ks = laid_append ps q ks

-- where the part spells tokens, they are those of the layout
pub record Lays (p : Layout) (P : Part) : Type 1 where
  pub by : (ts rest : List Token) → P ts rest → laid p (kinds rest) ≡ kinds ts

-- ---- one part, and then another

pub seq : {p q : Layout} {P Q : Part} → Lays p P → Lays q Q → Lays (p ++ q) (P ▸ Q)
seq {p = p} {q = q} h i = record { by = λ ts rest (mid, x, y). laid_append p q (kinds rest) ∙ ap (laid p) (i.by mid rest y) ∙ h.by ts mid x }

-- parts are grouped as the grammar has them
pub re : {p : Layout} {P Q R : Part} → Lays p ((P ▸ Q) ▸ R) → Lays p (P ▸ (Q ▸ R))
re h = record { by = λ ts rest (m1, x, (m2, y, z)). h.by ts rest (m2, (m1, x, y), z) }

-- what has no tokens
pub record Blank (g : Layout) : Type 0 where
  pub by : (ks : List TokenKind) → laid g ks ≡ ks

pub behind : {p g : Layout} {P : Part} → Blank g → Lays p P → Lays (p ++ g) P
behind {p = p} {g = g} b h = record { by = λ ts rest x. laid_append p g (kinds rest) ∙ ap (laid p) (b.by (kinds rest)) ∙ h.by ts rest x }

pub before : {p g : Layout} {P : Part} → Blank g → Lays p P → Lays (g ++ p) P
before {p = p} {g = g} b h = record { by = λ ts rest x. laid_append g p (kinds rest) ∙ b.by (laid p (kinds rest)) ∙ h.by ts rest x }

pub no_layout : Blank []
unfolding laid
no_layout = record { by = λ ks. refl }

pub gaps : Blank gap
unfolding laid
gaps = record { by = λ ks. refl }

pub lines : (d : ℕ) → Blank (new_line d)
unfolding laid
lines d = record { by = λ ks. refl }

-- ---- parts

pub puts : (kind : TokenKind) (at : Spot) → Lays (put kind) (one kind at)
unfolding laid
puts kind at = record { by = λ ts rest x. sym (ap kinds x) }

pub marks : (x : Sign) → Lays (mark x) (sign x)
unfolding laid
marks x = record { by = λ ts rest (at, h). sym (ap kinds h) }

pub keys : (x : Word) → Lays (key x) (word x)
unfolding laid
keys x = record { by = λ ts rest (at, h). sym (ap kinds h) }

pub nothings : Lays [] nothing
unfolding laid
nothings = record { by = λ ts rest x. sym (ap kinds x) }

-- a part with one space before it and one after it
pub arounds : {p : Layout} {P : Part} → Lays p P → Lays (around p) P
arounds h = behind gaps (before gaps h)

pub inner : {p : Layout} {P : ℕ → Part} → ((d : ℕ) → Lays p (P d)) → (d : ℕ) → Lays p (deeper d P)
inner h zero = record { by = λ ts rest x. absurd x }
inner h (suc d) = h d

pub whens : (b : Bool) {p : Layout} {P : Part} → Lays p P → Lays (l.when b p) (when b P)
whens true h = h
whens false h = nothings

pub optionals : {X : Type 0} {p : X → Layout} {P : X → Part} → ((x : X) → Lays (p x) (P x)) → (o : Option X) → Lays (l.optional p o) (optional P o)
optionals h None = nothings
optionals h (Some x) = h x

pub eachs : {X : Type 0} {p : X → Layout} {P : X → Part} → ((x : X) → Lays (p x) (P x)) → (xs : List X) → Lays (l.each p xs) (each P xs)
eachs h [] = nothings
eachs h (x ∷ xs) = seq (h x) (eachs h xs)

pub commas : {X : Type 0} {p : X → Layout} {P : X → Part} → ((x : X) → Lays (p x) (P x)) → (xs : List X) → Lays (l.with_commas p xs) (with_commas P xs)
commas h [] = nothings
commas h (x ∷ xs) = seq (h x) (eachs (λ y. seq (behind gaps (marks s.Comma)) (h y)) xs)

pub given : (C : Type 0) {p : Layout} {P : Part} → Lays p P → Lays p (C ⊳ P)
given C h = record { by = λ ts rest x. h.by ts rest x.1 }
