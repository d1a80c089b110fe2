-- Two lists of tokens that differ from some place on are read alike up to there: no reader looks past the token at which
-- it stops.
use Rattle.std.proofs.Common.{◌≡◌, ◌<◌, ◌≤◌, ◌+◌, ℕ, zero, suc, Bool, true, false, cond, List, [], ◌∷◌, ◌++◌, length, Option, Some, None, Ok, Err, refl, sym, ap, subst, ◌∙◌, arith, ◌⊎◌, inl, inr}
use Rattle.vale_base.specs.declared.spot.Spot.{Spot}
use Rattle.vale_syntax.specs.declared.token.Token.{Token}
use Rattle.vale_syntax.specs.declared.token.TokenKind.{TokenKind}
use Rattle.vale_syntax.specs.declared.token.TokenKind.TheVariants as k
use Rattle.vale_syntax.specs.declared.token.Sign.{Sign}
use Rattle.vale_syntax.specs.declared.token.Word.{Word}
use Rattle.vale_syntax.specs.declared.tree.NameAt.{NameAt}
use Rattle.vale_syntax.specs.Grammar.{number_of}
use Rattle.vale_reading.specs.declared.stop.Turn.{Turn}
use Rattle.vale_reading.specs.declared.stop.Turn.TheVariants.{More, End}
use Rattle.vale_reading.specs.Steps.{from, Fault, unexpected, too_deep, Read, Reader, ◌>>=◌, is_sign, is_word, begins, begins_word, sign_at, word_at, numbered, name_of, name_at, with_front, turn_then, turns_at, enough}
use Rattle.vale_reading.specs.Reading.{is_name}
use Rattle.vale_prefix.proofs.Parts.{KnowsKind, Knows}

-- what follows in the two lists, and the names of both
pub record Two : Type 0 where
  pub names : List (List ℕ)
  pub names2 : List (List ℕ)
  pub after : List Token
  pub more : List Token

-- the lists agree in one token or more before that
pub record Shared (x : Two) (ts us : List Token) : Type 0 where
  pub t : Token
  pub a : List Token
  pub left : ts ≡ t ∷ (a ++ x.after)
  pub right : us ≡ t ∷ (a ++ x.more)
  pub known : Knows x.names (t ∷ a)
  pub known2 : Knows x.names2 (t ∷ a)

-- all shared tokens were taken
abbrev pub Past : Two → List Token → Type 0
Past x ts = length ts ≤ length x.after

abbrev pub AtMost : {A : Type 0} → ℕ → Read A → Type 0
AtMost n (Ok v) = length v.1 ≤ n
AtMost n (Err f) = length (from f) ≤ n

abbrev SameFault : Two → Fault → Fault → Type 0
SameFault x (unexpected ts) (unexpected us) = Shared x ts us
SameFault x (too_deep ts) (too_deep us) = Shared x ts us
SameFault x f g = ⊥

abbrev pub Alike : {A : Type 0} → Two → (A → A → Type 0) → Read A → Read A → Type 0
Alike x V (Ok v) (Ok w) = Past x v.1 ⊎ (V v.0 w.0 × Shared x v.1 w.1)
Alike x V (Ok v) (Err g) = Past x v.1
Alike x V (Err f) (Ok w) = Past x (from f)
Alike x V (Err f) (Err g) = Past x (from f) ⊎ SameFault x f g

pub record Local {A : Type 0} (x : Two) (V : A → A → Type 0) (ts us : List Token) (r q : Read A) : Type 0 where
  pub at_most : AtMost (length ts) r
  pub alike : Shared x ts us → Alike x V r q

abbrev pub Any : {A : Type 0} → A → A → Type 0
Any v w = Unit {0}

pub weaker : {A : Type 0} (m n : ℕ) (q : Read A) → m ≤ n → AtMost m q → AtMost n q
weaker m n (Ok x) le h = omega (arith, le, h)
weaker m n (Err f) le h = omega (arith, le, h)

pub past_alike : {A : Type 0} (x : Two) (V : A → A → Type 0) (n : ℕ) (r q : Read A) → n ≤ length x.after → AtMost n r → Alike x V r q
past_alike x V n (Ok v) (Ok w) le h = inl (let past : length v.1 ≤ length x.after = omega (arith, le, h) in past)
past_alike x V n (Ok v) (Err g) le h = omega (arith, le, h)
past_alike x V n (Err f) (Ok w) le h = omega (arith, le, h)
past_alike x V n (Err f) (Err g) le h = inl (let past : length (from f) ≤ length x.after = omega (arith, le, h) in past)

fault_alike : {A : Type 0} (x : Two) (V : A → A → Type 0) (f : Fault) (q : Read A) → Past x (from f) → Alike x V (Err f) q
fault_alike x V f (Ok w) h = h
fault_alike x V f (Err g) h = inl h

-- ---- one step after another

module _ {A B : Type 0} (x : Two) (U : A → A → Type 0) (V : B → B → Type 0) (f g : A × List Token → Read B) where
  then_at_most : (n : ℕ) (r : Read A) → AtMost n r → ((v : A × List Token) → AtMost (length v.1) (f v)) → AtMost n (r >>= f)
  then_at_most n (Ok v) h k = weaker (length v.1) n (f v) h (k v)
  then_at_most n (Err e) h k = h

  then_alike : (r q : Read A) → Alike x U r q → ((v w : A × List Token) → Local x V v.1 w.1 (f v) (g w)) → Alike x V (r >>= f) (q >>= g)
  then_alike (Ok v) (Ok w) (inl past) k = past_alike x V (length v.1) (f v) (g w) past (k v w).at_most
  then_alike (Ok v) (Ok w) (inr both) k = (k v w).alike both.1
  then_alike (Ok v) (Err e) past k = past_alike x V (length v.1) (f v) (Err e) past (k v v).at_most
  then_alike (Err e) (Ok w) past k = fault_alike x V e (g w) past
  then_alike (Err e) (Err d) h k = h

pub step : {A B : Type 0} {x : Two} {U : A → A → Type 0} {V : B → B → Type 0} {f g : A × List Token → Read B} {ts us : List Token} {r q : Read A} → Local x U ts us r q → ((v w : A × List Token) → Local x V v.1 w.1 (f v) (g w)) → Local x V ts us (r >>= f) (q >>= g)
step {x = x} {U = U} {V = V} {f = f} {g = g} {ts = ts} {us = us} {r = r} {q = q} h k = record {
  at_most = then_at_most x U V f g (length ts) r h.at_most (λ v. (k v v).at_most);
  alike = λ sh. then_alike x U V f g r q (h.alike sh) k;
}

pub done : {A : Type 0} (x : Two) (V : A → A → Type 0) (v w : A) (ts us : List Token) → V v w → Local x V ts us (Ok (v, ts)) (Ok (w, us))
done x V v w ts us h = record { at_most = omega arith; alike = λ sh. inr (h, sh) }

pub refused : {A : Type 0} (x : Two) (V : A → A → Type 0) (ts us : List Token) → Local {A = A} x V ts us (Err (unexpected ts)) (Err (unexpected us))
refused x V ts us = record { at_most = omega arith; alike = λ sh. inr sh }

pub none_left : {A : Type 0} (x : Two) (V : A → A → Type 0) (ts us : List Token) → Local {A = A} x V ts us (Err (too_deep ts)) (Err (too_deep us))
none_left x V ts us = record { at_most = omega arith; alike = λ sh. inr sh }

pub no_tokens : (t : Token) (ts : List Token) → [] ≡ t ∷ ts → ⊥
no_tokens t ts e = cc

-- by what comes next, which is the same in both
pub by : {A B : Type 0} (x : Two) (V : A → A → Type 0) (ts us : List Token) (P Q : B → Read A) (b c : B) → (Shared x ts us → b ≡ c) → ((b : B) → Local x V ts us (P b) (Q b)) → Local x V ts us (P b) (Q c)
by x V ts us P Q b c same law = record { at_most = (law b).at_most; alike = λ sh. subst (λ (z : _). Alike x V (P b) (Q z)) (same sh) ((law b).alike sh) }

pub begins_same : (x : Two) (s : Sign) (ts us : List Token) → Shared x ts us → begins s ts ≡ begins s us
begins_same x s ts us sh = rw (sh.left, sh.right) refl

pub word_same : (x : Two) (w : Word) (ts us : List Token) → Shared x ts us → begins_word w ts ≡ begins_word w us
word_same x w ts us sh = rw (sh.left, sh.right) refl

head_is : (t u : Token) (ts us : List Token) → t ∷ ts ≡ u ∷ us → t ≡ u
head_is t u ts us e = cc

tail_is : (t u : Token) (ts us : List Token) → t ∷ ts ≡ u ∷ us → ts ≡ us
tail_is t u ts us e = cc

pub kind_same : (x : Two) (t u : Token) (ts us : List Token) → Shared x (t ∷ ts) (u ∷ us) → t.kind ≡ u.kind
kind_same x t u ts us sh = ap (λ (z : Token). z.kind) (head_is t sh.t ts (sh.a ++ x.after) sh.left ∙ sym (head_is u sh.t us (sh.a ++ x.more) sh.right))

-- ---- one token

-- after the first shared token
abbrev pub Next : Two → List Token → List Token → Type 0
Next x ts us = Past x ts ⊎ Shared x ts us

next_by : (x : Two) (a ts us : List Token) → ts ≡ a ++ x.after → us ≡ a ++ x.more → Knows x.names a → Knows x.names2 a → Next x ts us
next_by x [] ts us e f g h = inl (let past : length ts ≤ length x.after = omega (arith, ap length e) in past)
next_by x (t ∷ a) ts us e f g h = inr (record { t = t; a = a; left = e; right = f; known = g; known2 = h })

pub next : (x : Two) (t u : Token) (ts us : List Token) → Shared x (t ∷ ts) (u ∷ us) → Next x ts us
next x t u ts us sh = next_by x sh.a ts us (tail_is t sh.t ts (sh.a ++ x.after) sh.left) (tail_is u sh.t us (sh.a ++ x.more) sh.right) sh.known.1 sh.known2.1

after_alike : {A : Type 0} (x : Two) (V : A → A → Type 0) (ts us : List Token) (r q : Read A) → Local x V ts us r q → Next x ts us → Alike x V r q
after_alike x V ts us r q h (inl past) = past_alike x V (length ts) r q past h.at_most
after_alike x V ts us r q h (inr sh) = h.alike sh

pub after_one : {A : Type 0} {x : Two} {V : A → A → Type 0} {r q : Read A} (t u : Token) (ts us : List Token) → Local x V ts us r q → Local x V (t ∷ ts) (u ∷ us) r q
after_one {x = x} {V = V} {r = r} {q = q} t u ts us h = record {
  at_most = weaker (length ts) (length (t ∷ ts)) r (omega arith) h.at_most;
  alike = λ sh. after_alike x V ts us r q h (next x t u ts us sh);
}

-- one of the tokens that c tells was taken, or none stood there
abbrev pub Side : {A : Type 0} → (TokenKind → Bool) → List (List ℕ) → List Token → Read A → Type 0
Side c names ts (Ok v) = (t : Token) × (ts ≡ t ∷ v.1) × (c t.kind ≡ true)
Side c names ts (Err f) = (f ≡ unexpected ts) × ((t : Token) (rest : List Token) → ts ≡ t ∷ rest → KnowsKind names t.kind → c t.kind ≡ false)

differs : (b : Bool) → b ≡ false → b ≡ true → ⊥
differs b e f = let g : false ≡ true = sym e ∙ f in cc

first_known : (x : Two) (ts us : List Token) (sh : Shared x ts us) (t : Token) (rest : List Token) → ts ≡ t ∷ rest → KnowsKind x.names t.kind
first_known x ts us sh t rest e = subst (λ (z : Token). KnowsKind x.names z.kind) (head_is sh.t t (sh.a ++ x.after) rest (sym sh.left ∙ e)) sh.known.0

first_known2 : (x : Two) (ts us : List Token) (sh : Shared x ts us) (u : Token) (rest : List Token) → us ≡ u ∷ rest → KnowsKind x.names2 u.kind
first_known2 x ts us sh u rest e = subst (λ (z : Token). KnowsKind x.names2 z.kind) (head_is sh.t u (sh.a ++ x.more) rest (sym sh.right ∙ e)) sh.known2.0

-- a kind that is told at the front of one list and not at that of the other
apart : (x : Two) (c : TokenKind → Bool) (ts us : List Token) (sh : Shared x ts us) (t : Token) (rest : List Token) → ts ≡ t ∷ rest → c t.kind ≡ true
    → ((u : Token) (rest : List Token) → us ≡ u ∷ rest → KnowsKind x.names2 u.kind → c u.kind ≡ false) → ⊥
apart x c ts us sh t rest e told others = differs (c sh.t.kind) (others sh.t (sh.a ++ x.more) sh.right sh.known2.0) (subst (λ (z : Token). c z.kind ≡ true) (head_is t sh.t rest (sh.a ++ x.after) (sym e ∙ sh.left)) told)

apart2 : (x : Two) (c : TokenKind → Bool) (ts us : List Token) (sh : Shared x ts us) (u : Token) (rest : List Token) → us ≡ u ∷ rest → c u.kind ≡ true
    → ((t : Token) (rest : List Token) → ts ≡ t ∷ rest → KnowsKind x.names t.kind → c t.kind ≡ false) → ⊥
apart2 x c ts us sh u rest e told others = differs (c sh.t.kind) (others sh.t (sh.a ++ x.after) sh.left sh.known.0) (subst (λ (z : Token). c z.kind ≡ true) (head_is u sh.t rest (sh.a ++ x.more) (sym e ∙ sh.right)) told)

most_of : {A : Type 0} (ts : List Token) (t : Token) (rest : List Token) (r : Read A) → ts ≡ t ∷ rest → AtMost (length (t ∷ rest)) r → AtMost (length ts) r
most_of ts t rest r e h = subst (λ (z : List Token). AtMost (length z) r) (sym e) h

both_faults : {B : Type 0} (x : Two) (V : B → B → Type 0) (ts us : List Token) (d e : Fault) → d ≡ unexpected ts → e ≡ unexpected us → Local {A = B} x V ts us (Err d) (Err e)
both_faults x V ts us d e h j = subst (λ (d : Fault). Local {A = _} x V ts us (Err d) (Err e)) (sym h) (subst (λ (e : Fault). Local {A = _} x V ts us (Err (unexpected ts)) (Err e)) (sym j) (refused x V ts us))

one_fault : {B : Type 0} (x : Two) (V : B → B → Type 0) (ts us : List Token) (d : Fault) (q : Read B) → d ≡ unexpected ts → (Shared x ts us → ⊥) → Local x V ts us (Err d) q
one_fault x V ts us d q h never = record { at_most = omega (arith, ap (λ (d : Fault). length (from d)) h); alike = λ sh. absurd (never sh) }

-- the token that opens a level, or the first of a part
module _ {A B : Type 0} (x : Two) (V : B → B → Type 0) (f g : A × List Token → Read B) (c : TokenKind → Bool) where
  pub sides : (ts us : List Token) (most : (t : Token) (v : A × List Token) → ts ≡ t ∷ v.1 → AtMost (length (t ∷ v.1)) (f v)) (r q : Read A) → Side c x.names ts r → Side c x.names2 us q
      → ((t u : Token) (v w : A × List Token) → ts ≡ t ∷ v.1 → us ≡ u ∷ w.1 → Local x V (t ∷ v.1) (u ∷ w.1) (f v) (g w)) → Local x V ts us (r >>= f) (q >>= g)
  sides ts us most (Ok v) (Ok w) h j k = subst (λ (z : List Token). Local x V z us (f v) (g w)) (sym h.1) (subst (λ (z : List Token). Local x V (h.0 ∷ v.1) z (f v) (g w)) (sym j.1) (k h.0 j.0 v w h.1 j.1))
  sides ts us most (Ok v) (Err e) h j k = record { at_most = most_of ts h.0 v.1 (f v) h.1 (most h.0 v h.1); alike = λ sh. absurd (apart x c ts us sh h.0 v.1 h.1 h.2 j.1) }
  sides ts us most (Err d) (Ok w) h j k = one_fault x V ts us d (g w) h.0 (λ sh. apart2 x c ts us sh j.0 w.1 j.1 j.2 h.1)
  sides ts us most (Err d) (Err e) h j k = both_faults x V ts us d e h.0 j.0

  sides_then : (ts us : List Token) (r q : Read A) → Side c x.names ts r → Side c x.names2 us q → ((v w : A × List Token) → Local x V v.1 w.1 (f v) (g w)) → Local x V ts us (r >>= f) (q >>= g)
  sides_then ts us r q h j k = sides ts us (λ t v e. (after_one {x = x} {V = V} {r = f v} {q = g v} t t v.1 v.1 (k v v)).at_most) r q h j (λ t u v w e e2. after_one t u v.1 w.1 (k v w))

if_side : (c : TokenKind → Bool) (names : List (List ℕ)) (t : Token) (ts : List Token) (b : Bool) → c t.kind ≡ b → Side {A = Spot} c names (t ∷ ts) (cond b (Ok (t.at, ts)) (Err (unexpected (t ∷ ts))))
if_side c names t ts true e = (t, refl, e)
if_side c names t ts false e = (refl, λ u rest h known. subst (λ (z : Token). c z.kind ≡ false) (head_is t u ts rest h) e)

pub sign_side : (s : Sign) (names : List (List ℕ)) (ts : List Token) → Side (is_sign s) names ts (sign_at s ts)
unfolding sign_at
sign_side s names [] = (refl, λ u rest h known. absurd (no_tokens u rest h))
sign_side s names (t ∷ ts) = if_side (is_sign s) names t ts (is_sign s t.kind) refl

pub word_side : (w : Word) (names : List (List ℕ)) (ts : List Token) → Side (is_word w) names ts (word_at w ts)
unfolding word_at
word_side w names [] = (refl, λ u rest h known. absurd (no_tokens u rest h))
word_side w names (t ∷ ts) = if_side (is_word w) names t ts (is_word w t.kind) refl

some_none : (n : ℕ) (o : Option ℕ) → o ≡ Some n → o ≡ None → ⊥
some_none n o e f = let g : Some n ≡ None = sym e ∙ f in cc

numbered_side : (names : List (List ℕ)) (t : Token) (ts : List Token) (str : List ℕ) (o : Option ℕ) → t.kind ≡ k.Name str → number_of names str ≡ o → Side is_name names (t ∷ ts) (numbered names t ts o)
numbered_side names t ts str (Some n) is e = (t, refl, ap is_name is)
numbered_side names t ts str None is e = (refl, λ u rest h known. let same : u.kind ≡ k.Name str = ap (λ (z : Token). z.kind) (sym (head_is t u ts rest h)) ∙ is in let n = subst (KnowsKind names) same known in absurd (some_none n.0 (number_of names str) n.1 e))

name_of_side : (names : List (List ℕ)) (t : Token) (ts : List Token) (kind : TokenKind) → t.kind ≡ kind → Side is_name names (t ∷ ts) (name_of names t ts kind)
name_of_side names t ts (k.Name str) is = numbered_side names t ts str (number_of names str) is refl
name_of_side names t ts _ is = (refl, λ u rest h known. subst (λ (z : Token). is_name z.kind ≡ false) (head_is t u ts rest h) (ap is_name is))

pub name_side : (names : List (List ℕ)) (ts : List Token) → Side is_name names ts (name_at names ts)
unfolding name_at
name_side names [] = (refl, λ u rest h known. absurd (no_tokens u rest h))
name_side names (t ∷ ts) = name_of_side names t ts t.kind refl

pub sign_then : {B : Type 0} {x : Two} {V : B → B → Type 0} {f g : Spot × List Token → Read B} (s : Sign) (ts us : List Token) → ((v w : Spot × List Token) → Local x V v.1 w.1 (f v) (g w)) → Local x V ts us (sign_at s ts >>= f) (sign_at s us >>= g)
sign_then {x = x} {V = V} {f = f} {g = g} s ts us k = sides_then x V f g (is_sign s) ts us (sign_at s ts) (sign_at s us) (sign_side s x.names ts) (sign_side s x.names2 us) k

pub word_then : {B : Type 0} {x : Two} {V : B → B → Type 0} {f g : Spot × List Token → Read B} (w : Word) (ts us : List Token) → ((v w : Spot × List Token) → Local x V v.1 w.1 (f v) (g w)) → Local x V ts us (word_at w ts >>= f) (word_at w us >>= g)
word_then {x = x} {V = V} {f = f} {g = g} w ts us k = sides_then x V f g (is_word w) ts us (word_at w ts) (word_at w us) (word_side w x.names ts) (word_side w x.names2 us) k

pub name_then : {B : Type 0} {V : B → B → Type 0} {f g : NameAt × List Token → Read B} (x : Two) (ts us : List Token) → ((v w : NameAt × List Token) → Local x V v.1 w.1 (f v) (g w)) → Local x V ts us (name_at x.names ts >>= f) (name_at x.names2 us >>= g)
name_then {V = V} {f = f} {g = g} x ts us k = sides_then x V f g is_name ts us (name_at x.names ts) (name_at x.names2 us) (name_side x.names ts) (name_side x.names2 us) k

-- a token by itself
pub one_local : {A : Type 0} (x : Two) (c : TokenKind → Bool) (ts us : List Token) (r q : Read A) → Side c x.names ts r → Side c x.names2 us q → Local x Any ts us r q
one_local x c ts us (Ok v) (Ok w) h j = sides_then x Any (λ v. Ok v) (λ v. Ok v) c ts us (Ok v) (Ok w) h j (λ v w. done x Any v.0 w.0 v.1 w.1 tt)
one_local x c ts us (Ok v) (Err e) h j = sides_then x Any (λ v. Ok v) (λ v. Ok v) c ts us (Ok v) (Err e) h j (λ v w. done x Any v.0 w.0 v.1 w.1 tt)
one_local x c ts us (Err d) (Ok w) h j = sides_then x Any (λ v. Ok v) (λ v. Ok v) c ts us (Err d) (Ok w) h j (λ v w. done x Any v.0 w.0 v.1 w.1 tt)
one_local x c ts us (Err d) (Err e) h j = sides_then x Any (λ v. Ok v) (λ v. Ok v) c ts us (Err d) (Err e) h j (λ v w. done x Any v.0 w.0 v.1 w.1 tt)

-- at one kind of what comes next
pub by_one : {A B : Type 0} (x : Two) (V : A → A → Type 0) (ts us : List Token) (P Q : B → Read A) (b c : B) → (Shared x ts us → b ≡ c) → Local x V ts us (P b) (Q b) → Local x V ts us (P b) (Q c)
by_one x V ts us P Q b c same h = record { at_most = h.at_most; alike = λ sh. subst (λ (z : _). Alike x V (P b) (Q z)) (same sh) (h.alike sh) }

-- ---- what is taken for sure

-- no more than n tokens are left, or the first opens a level too many
abbrev pub Tight : {A : Type 0} → Option ℕ → List Token → Read A → Type 0
Tight (Some n) here r = AtMost n r
Tight None here r = r ≡ Err (too_deep here)

pub most_then : {A B : Type 0} (n : ℕ) (r : Read A) (f : A × List Token → Read B) → AtMost n r → ((v : A × List Token) → AtMost (length v.1) (f v)) → AtMost n (r >>= f)
most_then n (Ok v) f h k = weaker (length v.1) n (f v) h (k v)
most_then n (Err e) f h k = h

pub tight_then : {A B : Type 0} (n : Option ℕ) (here : List Token) (r : Read A) (f : A × List Token → Read B) → Tight n here r → ((v : A × List Token) → AtMost (length v.1) (f v)) → Tight n here (r >>= f)
tight_then (Some n) here r f h k = most_then n r f h k
tight_then {A = A} None here r f e k = ap (λ (r : Read A). r >>= f) e

-- a token that stands there is taken
pub first_taken : {A B : Type 0} (n : Option ℕ) (here : List Token) (c : TokenKind → Bool) (names : List (List ℕ)) (t : Token) (ts : List Token) (r : Read A) (f : A × List Token → Read B) → Side c names (t ∷ ts) r → c t.kind ≡ true → KnowsKind names t.kind → ((v : A × List Token) → v.1 ≡ ts → Tight n here (f v)) → Tight n here (r >>= f)
first_taken n here c names t ts (Ok v) f h told known k = k v (sym (tail_is t h.0 ts v.1 h.1))
first_taken n here c names t ts (Err e) f h told known k = absurd (differs (c t.kind) (h.1 t ts refl known) told)

-- ---- by turns

abbrev pub SameTurn : {X E : Type 0} → Turn X E → Turn X E → Type 0
SameTurn (More a) (More b) = Unit {0}
SameTurn (End a) (End b) = Unit {0}
SameTurn v w = ⊥

-- each item takes a token
abbrev pub Strict : {X E : Type 0} → Reader (Turn X E) → Type 0
Strict {X} {E} turn = (ts : List Token) (v : X) (mid : List Token) → turn ts ≡ Ok (More v, mid) → length mid < length ts

module _ {X E L : Type 0} (turn : Reader (Turn X E)) (more : X → L → L) (end : E → L) (out : Reader L) (strict : Strict turn) where
  fuel_by : (n m : ℕ) (ts : List Token) (r : Read (Turn X E)) → turn ts ≡ r → ((mid : List Token) → length mid < length ts → turns_at turn more end out n mid ≡ turns_at turn more end out m mid)
      → turn_then turn more end out (turns_at turn more end out n) r ≡ turn_then turn more end out (turns_at turn more end out m) r
  fuel_by n m ts (Ok (More v, mid)) e k = ap (with_front (more v)) (k mid (strict ts v mid e))
  fuel_by n m ts (Ok (End v, mid)) e k = refl
  fuel_by n m ts (Err f) e k = refl

  -- more turns than tokens make no difference
  fuel : (n m : ℕ) (ts : List Token) → length ts < n → length ts < m → turns_at turn more end out n ts ≡ turns_at turn more end out m ts
  unfolding turns_at
  fuel zero m ts lt lt2 = absurd (omega (arith, lt))
  fuel n zero ts lt lt2 = absurd (omega (arith, lt2))
  fuel (suc n) (suc m) ts lt lt2 = fuel_by n m ts (turn ts) refl (λ mid less. let a : length mid < n = omega (arith, less, lt) in let b : length mid < m = omega (arith, less, lt2) in fuel n m mid a b)

module _ {X E L : Type 0} (x : Two) (turn turn2 : Reader (Turn X E)) (more : X → L → L) (end : E → L) (out : Reader L)
    (law : (ts us : List Token) → Local x SameTurn ts us (turn ts) (turn2 us)) (outs : (ts us : List Token) → Local x Any ts us (out ts) (out us)) where
  front_most : (n : ℕ) (h : L → L) (q : Read L) → AtMost n q → AtMost n (with_front h q)
  front_most n h (Ok v) a = a
  front_most n h (Err e) a = a

  front_alike : (h h2 : L → L) (r q : Read L) → Alike x Any r q → Alike x Any (with_front h r) (with_front h2 q)
  front_alike h h2 (Ok v) (Ok w) (inl past) = inl past
  front_alike h h2 (Ok v) (Ok w) (inr both) = inr (tt, both.1)
  front_alike h h2 (Ok v) (Err e) a = a
  front_alike h h2 (Err d) (Ok w) a = a
  front_alike h h2 (Err d) (Err e) a = a

  module _ (n : ℕ) (others : (ts us : List Token) → Local x Any ts us (turns_at turn more end out n ts) (turns_at turn2 more end out n us)) where
    abbrev first : Read (Turn X E) → Read L
    first r = turn_then turn more end out (turns_at turn more end out n) r

    abbrev second : Read (Turn X E) → Read L
    second q = turn_then turn2 more end out (turns_at turn2 more end out n) q

    turn_most : (m : ℕ) (r : Read (Turn X E)) → AtMost m r → AtMost m (first r)
    turn_most m (Ok (More v, mid)) h = weaker (length mid) m (with_front (more v) (turns_at turn more end out n mid)) h (front_most (length mid) (more v) (turns_at turn more end out n mid) (others mid mid).at_most)
    turn_most m (Ok (End e, mid)) h = h
    turn_most m (Err f) h = h

    turn_alike : (r q : Read (Turn X E)) → Alike x SameTurn r q → Alike x Any (first r) (second q)
    turn_alike (Ok v) (Ok w) (inl past) = past_alike x Any (length v.1) (first (Ok v)) (second (Ok w)) past (turn_most (length v.1) (Ok v) (omega arith))
    turn_alike (Ok (More v, mid)) (Ok (More w, mid2)) (inr both) = front_alike (more v) (more w) (turns_at turn more end out n mid) (turns_at turn2 more end out n mid2) ((others mid mid2).alike both.1)
    turn_alike (Ok (End v, mid)) (Ok (End w, mid2)) (inr both) = inr (tt, both.1)
    turn_alike (Ok (More v, mid)) (Ok (End w, mid2)) (inr both) = absurd both.0
    turn_alike (Ok (End v, mid)) (Ok (More w, mid2)) (inr both) = absurd both.0
    turn_alike (Ok v) (Err e) past = past_alike x Any (length v.1) (first (Ok v)) (Err e) past (turn_most (length v.1) (Ok v) (omega arith))
    turn_alike (Err d) (Ok w) past = fault_alike x Any d (second (Ok w)) past
    turn_alike (Err d) (Err e) h = h

  -- with one count of turns
  pub turns_by : (n : ℕ) (ts us : List Token) → Local x Any ts us (turns_at turn more end out n ts) (turns_at turn2 more end out n us)
  unfolding turns_at
  turns_by zero ts us = outs ts us
  turns_by (suc n) ts us = record { at_most = turn_most n (turns_by n) (length ts) (turn ts) (law ts us).at_most; alike = λ sh. turn_alike n (turns_by n) (turn ts) (turn2 us) ((law ts us).alike sh) }

  -- with enough turns for each
  pub turns_local : Strict turn → Strict turn2 → (ts us : List Token) → Local x Any ts us (turns_at turn more end out (enough ts) ts) (turns_at turn2 more end out (enough us) us)
  turns_local strict strict2 ts us =
      let n : ℕ = enough ts + enough us in
      let a : length ts < enough ts = omega arith in
      let b : length us < enough us = omega arith in
      let a2 : length ts < n = omega (arith, a) in
      let b2 : length us < n = omega (arith, b) in
      subst (λ (r : Read L). Local x Any ts us r (turns_at turn2 more end out (enough us) us)) (fuel turn more end out strict n (enough ts) ts a2 a)
      (subst (λ (q : Read L). Local x Any ts us (turns_at turn more end out n ts) q) (fuel turn2 more end out strict2 n (enough us) us b2 b) (turns_by n ts us))
