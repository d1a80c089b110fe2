-- The tokens of a text stand at spots of their own: so tokens of the same kinds are these with their spots moved.
use Rattle.std.proofs.Common.{◌≡◌, ◌<◌, ◌≤◌, ℕ, Bool, true, false, cond, eqb, ◌&&◌, List, [], ◌∷◌, length, ◌⊎◌, inl, inr, refl, sym, ap, subst, ◌∙◌, arith}
use Rattle.std.proofs.lemmas.Bool.Decides.{nat_tests}
use Rattle.vale_base.specs.declared.spot.Spot.{Spot}
use Rattle.vale_syntax.specs.Cut.{Cuts, none, gap, token, step, behind}
use Rattle.vale_syntax.specs.Moved.{kinds, moved_tokens}
use Rattle.vale_syntax.specs.declared.token.Token.{Token}
use Rattle.vale_syntax.specs.declared.token.TokenKind.{TokenKind}
use Rattle.vale_lexer.proofs.Sorted.{IsPiece-some, Means-piece}

-- ---- the order of spots

abbrev IsBefore : Spot → Spot → Type 0
IsBefore a b = (a.line < b.line) ⊎ ((a.line ≡ b.line) × (a.col < b.col))

abbrev IsUpTo : Spot → Spot → Type 0
IsUpTo a b = (a.line < b.line) ⊎ ((a.line ≡ b.line) × (a.col ≤ b.col))

up_to_itself : (a : Spot) → IsUpTo a a
up_to_itself a = inr (refl, omega arith)

up_to_more : (a b c : Spot) → IsUpTo a b → IsUpTo b c → IsUpTo a c
up_to_more a b c (inl h) (inl g) = inl (omega arith)
up_to_more a b c (inl h) (inr (e, g)) = inl (omega (arith, e))
up_to_more a b c (inr (e, h)) (inl g) = inl (omega (arith, e))
up_to_more a b c (inr (e, h)) (inr (f, g)) = inr (e ∙ f, omega arith)

before_more : (a b c : Spot) → IsBefore a b → IsUpTo b c → IsBefore a c
before_more a b c (inl h) (inl g) = inl (omega arith)
before_more a b c (inl h) (inr (e, g)) = inl (omega (arith, e))
before_more a b c (inr (e, h)) (inl g) = inl (omega (arith, e))
before_more a b c (inr (e, h)) (inr (f, g)) = inr (e ∙ f, omega arith)

up_to_next : (a b : Spot) → IsBefore a b → IsUpTo a b
up_to_next a b (inl h) = inl h
up_to_next a b (inr (e, h)) = inr (e, omega arith)

step_by : (at : Spot) (b : ℕ) (t : Bool) → eqb b 10 ≡ t → IsBefore at (step at b)
step_by at b true e = rw e (inl (omega arith))
step_by at b false e = rw e (inr (refl, omega arith))

step_on : (at : Spot) (b : ℕ) → IsBefore at (step at b)
step_on at b = step_by at b (eqb b 10) refl

behind_on : (at : Spot) (piece : List ℕ) → IsUpTo at (behind at piece)
behind_on at [] = up_to_itself at
behind_on at (b ∷ piece) = up_to_more at (step at b) (behind (step at b) piece) (up_to_next at (step at b) (step_on at b)) (behind_on (step at b) piece)

behind_past : (at : Spot) (piece : List ℕ) → 0 < length piece → IsBefore at (behind at piece)
behind_past at [] some = absurd (omega arith)
behind_past at (b ∷ piece) some = before_more at (step at b) (behind (step at b) piece) (step_on at b) (behind_on (step at b) piece)

-- ---- the spots of tokens

-- none of the tokens stands before the spot
abbrev From : Spot → List Token → Type 0
From at [] = Unit {0}
From at (t ∷ ts) = IsUpTo at t.at × From at ts

-- each of the tokens stands after the spot
abbrev Behind : Spot → List Token → Type 0
Behind at [] = Unit {0}
Behind at (t ∷ ts) = IsBefore at t.at × Behind at ts

-- each of the tokens stands after those before it
abbrev pub InOrder : List Token → Type 0
InOrder [] = Unit {0}
InOrder (t ∷ ts) = Behind t.at ts × InOrder ts

from_more : (a b : Spot) (ts : List Token) → IsUpTo a b → From b ts → From a ts
from_more a b [] le h = tt
from_more a b (t ∷ ts) le h = (up_to_more a b t.at le h.0, from_more a b ts le h.1)

behind_more : (a b : Spot) (ts : List Token) → IsBefore a b → From b ts → Behind a ts
behind_more a b [] lt h = tt
behind_more a b (t ∷ ts) lt h = (before_more a b t.at lt h.0, behind_more a b ts lt h.1)

cut_from : {at end : Spot} {text rest : List ℕ} {ts : List Token} → Cuts at text ts end rest → From at ts
cut_from none = tt
cut_from (gap {at = at} {tokens = ts} piece after e g lg more) = from_more at (behind at piece) ts (behind_on at piece) (cut_from more)
cut_from (token {at = at} {t = t} {tokens = ts} piece after e m lg s more) = (subst (λ (x : Spot). IsUpTo at x) (sym s) (up_to_itself at), from_more at (behind at piece) ts (behind_on at piece) (cut_from more))

-- the tokens that a text is cut into stand in order
pub cut_in_order : {at end : Spot} {text rest : List ℕ} {ts : List Token} → Cuts at text ts end rest → InOrder ts
cut_in_order none = tt
cut_in_order (gap piece after e g lg more) = cut_in_order more
cut_in_order (token {at = at} {t = t} {tokens = ts} piece after e m lg s more) =
    let past = behind_past at piece (IsPiece-some piece (Means-piece piece t.kind m)) in
    (subst (λ (x : Spot). Behind x ts) (sym s) (behind_more at (behind at piece) ts past (cut_from more)), cut_in_order more)

-- ---- from the spots of some tokens to those of others

abbrev is_spot : Spot → Spot → Bool
is_spot a b = eqb a.line b.line && eqb a.col b.col

spot_itself : (a : Spot) → is_spot a a ≡ true
spot_itself a = grind (arith, nat_tests)

spot_before : (a b : Spot) → IsBefore a b → is_spot a b ≡ false
spot_before a b (inl h) = grind (arith, nat_tests)
spot_before a b (inr (e, h)) = grind (arith, nat_tests)

-- the spot of the second's token where the first's token at this spot stands
abbrev pub spot_for : List Token → List Token → Spot → Spot
spot_for (t ∷ ts) (u ∷ us) at = cond (is_spot t.at at) u.at (spot_for ts us at)
spot_for _ _ at = at

later_same : (t u : Token) (ts us vs : List Token) → Behind t.at vs → moved_tokens (spot_for (t ∷ ts) (u ∷ us)) vs ≡ moved_tokens (spot_for ts us) vs
later_same t u ts us [] h = refl
later_same t u ts us (v ∷ vs) h =
    let other : is_spot t.at v.at ≡ false = spot_before t.at v.at h.0 in
    let at_of : Spot → List Token → List Token = λ at xs. record { kind = v.kind; at = at } ∷ xs in
    ap (λ (b : Bool). at_of (cond b u.at (spot_for ts us v.at)) (moved_tokens (spot_for (t ∷ ts) (u ∷ us)) vs)) other
    ∙ ap (λ (z : List Token). at_of (spot_for ts us v.at) z) (later_same t u ts us vs h.1)

same_kinds : (a b : TokenKind) (xs ys : List TokenKind) → a ∷ xs ≡ b ∷ ys → (a ≡ b) × (xs ≡ ys)
same_kinds a b xs ys e = (cc, cc)

nil_no : (b : TokenKind) (ys : List TokenKind) → [] ≡ b ∷ ys → ⊥
nil_no b ys e = cc

-- tokens of the same kinds are those that stand in order, with their spots moved
pub moved_is : (ts us : List Token) → InOrder ts → kinds us ≡ kinds ts → moved_tokens (spot_for ts us) ts ≡ us
moved_is [] [] h e = refl
moved_is [] (u ∷ us) h e = absurd (nil_no u.kind (kinds us) (sym e))
moved_is (t ∷ ts) [] h e = absurd (nil_no t.kind (kinds ts) e)
moved_is (t ∷ ts) (u ∷ us) h e =
    let q = same_kinds u.kind t.kind (kinds us) (kinds ts) e in
    let token_of : TokenKind → Spot → Token = λ kind at. record { kind = kind; at = at } in
    ap (λ (b : Bool). token_of t.kind (cond b u.at (spot_for ts us t.at)) ∷ moved_tokens (spot_for (t ∷ ts) (u ∷ us)) ts) (spot_itself t.at)
    ∙ (ap (λ (z : TokenKind). token_of z u.at ∷ moved_tokens (spot_for (t ∷ ts) (u ∷ us)) ts) (sym q.0)
    ∙ ap (λ (z : List Token). u ∷ z) (later_same t u ts us ts h.0 ∙ moved_is ts us h.1 q.1))

-- moved to one spot, tokens are told by their kinds
pub bare_is : (at : Spot) (ts us : List Token) → kinds us ≡ kinds ts → moved_tokens (λ from. at) us ≡ moved_tokens (λ from. at) ts
bare_is at [] [] e = refl
bare_is at [] (u ∷ us) e = absurd (nil_no u.kind (kinds us) (sym e))
bare_is at (t ∷ ts) [] e = absurd (nil_no t.kind (kinds ts) e)
bare_is at (t ∷ ts) (u ∷ us) e =
    let q = same_kinds u.kind t.kind (kinds us) (kinds ts) e in
    let token_of : TokenKind → Token = λ kind. record { kind = kind; at = at } in
    ap (λ (z : TokenKind). token_of z ∷ moved_tokens (λ from. at) us) q.0 ∙ ap (λ (z : List Token). token_of t.kind ∷ z) (bare_is at ts us q.1)
