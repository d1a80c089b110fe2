-- Readers with more levels left: they read the same, but where too few were left they get past the token that opened one.
use Rattle.std.proofs.Common.{◌≡◌, ◌<◌, ◌≤◌, ℕ, zero, suc, Bool, true, false, cond, List, [], ◌∷◌, length, Option, Some, None, Ok, Err, refl, sym, subst, arith}
use Rattle.vale_base.specs.declared.spot.Spot.{Spot}
use Rattle.vale_syntax.specs.declared.token.Token.{Token}
use Rattle.vale_syntax.specs.declared.token.TokenKind.{TokenKind}
use Rattle.vale_syntax.specs.declared.token.TokenKind.TheVariants as k
use Rattle.vale_syntax.specs.declared.token.Sign.{Sign}
use Rattle.vale_syntax.specs.declared.token.Word.{Word}
use Rattle.vale_syntax.specs.declared.tree.NameAt.{NameAt}
use Rattle.vale_syntax.specs.Grammar.{number_of}
use Rattle.vale_reading.specs.declared.stop.Turn.{Turn}
use Rattle.vale_reading.specs.declared.stop.Turn.TheVariants.{More, End}
use Rattle.vale_reading.specs.Steps.{Fault, unexpected, too_deep, from, Read, Reader, ◌>>=◌, is_sign, is_word, sign_at, word_at, numbered, name_of, name_at, with_front, turn_then, turns_at}

-- at most so many tokens are after what was read, or from the fault on
abbrev pub AtMost : {A : Type 0} → ℕ → Read A → Type 0
AtMost n (Ok x) = length x.1 ≤ n
AtMost n (Err f) = length (from f) ≤ n

abbrev pub Fewer : {A : Type 0} → ℕ → Read A → Type 0
Fewer n (Ok x) = length x.1 < n
Fewer n (Err f) = length (from f) < n

-- what is read where more levels are left
abbrev pub Follows : {A : Type 0} → Bool → Read A → Read A → Type 0
Follows false r q = Unit {0}
Follows true (Ok x) q = q ≡ Ok x
Follows true (Err (unexpected us)) q = q ≡ Err (unexpected us)
Follows true (Err (too_deep us)) q = Fewer (length us) q

pub record Grows {A : Type 0} (b : Bool) (ts : List Token) (r q : Read A) : Type 0 where
  pub at_most : AtMost (length ts) q
  pub follows : Follows b r q

pub weaker : {A : Type 0} (m n : ℕ) (q : Read A) → m ≤ n → AtMost m q → AtMost n q
weaker m n (Ok x) le h = omega (arith, le, h)
weaker m n (Err f) le h = omega (arith, le, h)

pub fewer : {A : Type 0} (m n : ℕ) (q : Read A) → m < n → AtMost m q → Fewer n q
fewer m n (Ok x) lt h = omega (arith, lt, h)
fewer m n (Err f) lt h = omega (arith, lt, h)

same_fault : {A : Type 0} (b : Bool) (us : List Token) (q : Read A) → q ≡ Err (unexpected us) → Follows b (Err (unexpected us)) q
same_fault false us q e = tt
same_fault true us q e = e

same_value : {A : Type 0} (b : Bool) (x : A × List Token) → Follows b (Ok x) (Ok x)
same_value false x = tt
same_value true x = refl

pub done : {A : Type 0} (b : Bool) (x : A) (ts : List Token) → Grows b ts (Ok (x, ts)) (Ok (x, ts))
done b x ts = record { at_most = omega arith; follows = same_value b (x, ts) }

pub refused : {A : Type 0} (b : Bool) (ts : List Token) → Grows {A = A} b ts (Err (unexpected ts)) (Err (unexpected ts))
refused b ts = record { at_most = omega arith; follows = same_fault b ts _ refl }

pub shorter : {A : Type 0} (b : Bool) (us ts : List Token) (r q : Read A) → length us ≤ length ts → Grows b us r q → Grows b ts r q
shorter b us ts r q le h = record { at_most = weaker (length us) (length ts) q le h.at_most; follows = h.follows }

-- ---- one step after another

module _ {A B : Type 0} (f g : A × List Token → Read B) where
  then_at_most : (n : ℕ) (q : Read A) → AtMost n q → ((x : A × List Token) → AtMost (length x.1) (g x)) → AtMost n (q >>= g)
  then_at_most n (Ok x) h k = weaker (length x.1) n (g x) h (k x)
  then_at_most n (Err e) h k = h

  then_fewer : (n : ℕ) (q : Read A) → Fewer n q → ((x : A × List Token) → AtMost (length x.1) (g x)) → Fewer n (q >>= g)
  then_fewer n (Ok x) h k = fewer (length x.1) n (g x) h (k x)
  then_fewer n (Err e) h k = h

  then_follows : (b : Bool) (r q : Read A) → Follows b r q → ((x : A × List Token) → Grows b x.1 (f x) (g x)) → Follows b (r >>= f) (q >>= g)
  then_follows false r q h k = tt
  then_follows true (Ok x) q h k = subst (λ (q : Read A). Follows true (f x) (q >>= g)) (sym h) (k x).follows
  then_follows true (Err (unexpected us)) q h k = subst (λ (q : Read A). (q >>= g) ≡ Err (unexpected us)) (sym h) refl
  then_follows true (Err (too_deep us)) q h k = then_fewer (length us) q h (λ x. (k x).at_most)

  pub then_grows : (b : Bool) (ts : List Token) (r q : Read A) → Grows b ts r q → ((x : A × List Token) → Grows b x.1 (f x) (g x)) → Grows b ts (r >>= f) (q >>= g)
  then_grows b ts r q h k = record { at_most = then_at_most (length ts) q h.at_most (λ x. (k x).at_most); follows = then_follows b r q h.follows k }

pub step : {A B : Type 0} {f g : A × List Token → Read B} {b : Bool} {ts : List Token} {r q : Read A} → Grows b ts r q → ((x : A × List Token) → Grows b x.1 (f x) (g x)) → Grows b ts (r >>= f) (q >>= g)
step {f = f} {g = g} {b = b} {ts = ts} {r = r} {q = q} h k = then_grows f g b ts r q h k

pub if_grows : {A : Type 0} {p r q t : Read A} {ts : List Token} (b is : Bool) → Grows b ts p r → Grows b ts q t → Grows b ts (cond is p q) (cond is r t)
if_grows b true h k = h
if_grows b false h k = k

-- what is read after a token
pub after_one : {A : Type 0} {r q : Read A} (b : Bool) (t : Token) (ts : List Token) → Grows b ts r q → Grows b (t ∷ ts) r q
after_one {r = r} {q = q} b t ts h = shorter b ts (t ∷ ts) r q (omega arith) h

-- ---- one token

-- a token was taken, or none that was expected stood there
abbrev Taken : {A : Type 0} → List Token → Read A → Type 0
Taken ts (Ok x) = length x.1 < length ts
Taken ts (Err f) = f ≡ unexpected ts

module _ {A B : Type 0} (f g : A × List Token → Read B) (b : Bool) (ts : List Token) where
  taken : (r : Read A) → Taken ts r → ((x : A × List Token) → length x.1 < length ts → Grows b ts (f x) (g x)) → Grows b ts (r >>= f) (r >>= g)
  taken (Ok x) h k = k x h
  taken (Err e) h k = subst (λ (e : Fault). Grows {A = B} b ts (Err e) (Err e)) (sym h) (refused b ts)

itself : {A : Type 0} (b : Bool) (ts : List Token) (r : Read A) → Taken ts r → Grows b ts r r
itself b ts (Ok x) h = shorter b x.1 ts (Ok x) (Ok x) (omega (arith, h)) (done b x.0 x.1)
itself {A = A} b ts (Err e) h = subst (λ (e : Fault). Grows {A = A} b ts (Err e) (Err e)) (sym h) (refused b ts)

if_taken : (b : Bool) (t : Token) (ts : List Token) → Taken {A = Spot} (t ∷ ts) (cond b (Ok (t.at, ts)) (Err (unexpected (t ∷ ts))))
if_taken true t ts = omega arith
if_taken false t ts = refl

sign_taken : (x : Sign) (ts : List Token) → Taken ts (sign_at x ts)
unfolding sign_at
sign_taken x [] = refl
sign_taken x (t ∷ ts) = if_taken (is_sign x t.kind) t ts

word_taken : (x : Word) (ts : List Token) → Taken ts (word_at x ts)
unfolding word_at
word_taken x [] = refl
word_taken x (t ∷ ts) = if_taken (is_word x t.kind) t ts

module _ (names : List (List ℕ)) where
  numbered_taken : (t : Token) (ts : List Token) (o : Option ℕ) → Taken (t ∷ ts) (numbered names t ts o)
  numbered_taken t ts (Some n) = omega arith
  numbered_taken t ts None = refl

  name_of_taken : (t : Token) (ts : List Token) (kind : TokenKind) → Taken (t ∷ ts) (name_of names t ts kind)
  name_of_taken t ts (k.Name text) = numbered_taken t ts (number_of names text)
  name_of_taken t ts _ = refl

  name_taken : (ts : List Token) → Taken ts (name_at names ts)
  unfolding name_at
  name_taken [] = refl
  name_taken (t ∷ ts) = name_of_taken t ts t.kind

  pub name_then : {B : Type 0} {f g : NameAt × List Token → Read B} (b : Bool) (ts : List Token) → ((n : NameAt × List Token) → length n.1 < length ts → Grows b n.1 (f n) (g n)) → Grows b ts (name_at names ts >>= f) (name_at names ts >>= g)
  name_then {f = f} {g = g} b ts k = taken f g b ts (name_at names ts) (name_taken ts) (λ n lt. shorter b n.1 ts (f n) (g n) (omega (arith, lt)) (k n lt))

  pub name_grows : (b : Bool) (ts : List Token) → Grows b ts (name_at names ts) (name_at names ts)
  name_grows b ts = itself b ts (name_at names ts) (name_taken ts)

pub sign_opens : {B : Type 0} {f g : Spot × List Token → Read B} (x : Sign) (b : Bool) (ts : List Token) → ((a : Spot × List Token) → length a.1 < length ts → Grows b ts (f a) (g a)) → Grows b ts (sign_at x ts >>= f) (sign_at x ts >>= g)
sign_opens {f = f} {g = g} x b ts k = taken f g b ts (sign_at x ts) (sign_taken x ts) k

pub sign_then : {B : Type 0} {f g : Spot × List Token → Read B} (x : Sign) (b : Bool) (ts : List Token) → ((a : Spot × List Token) → length a.1 < length ts → Grows b a.1 (f a) (g a)) → Grows b ts (sign_at x ts >>= f) (sign_at x ts >>= g)
sign_then {f = f} {g = g} x b ts k = sign_opens x b ts (λ a lt. shorter b a.1 ts (f a) (g a) (omega (arith, lt)) (k a lt))

pub word_opens : {B : Type 0} {f g : Spot × List Token → Read B} (x : Word) (b : Bool) (ts : List Token) → ((a : Spot × List Token) → length a.1 < length ts → Grows b ts (f a) (g a)) → Grows b ts (word_at x ts >>= f) (word_at x ts >>= g)
word_opens {f = f} {g = g} x b ts k = taken f g b ts (word_at x ts) (word_taken x ts) k

pub word_then : {B : Type 0} {f g : Spot × List Token → Read B} (x : Word) (b : Bool) (ts : List Token) → ((a : Spot × List Token) → length a.1 < length ts → Grows b a.1 (f a) (g a)) → Grows b ts (word_at x ts >>= f) (word_at x ts >>= g)
word_then {f = f} {g = g} x b ts k = word_opens x b ts (λ a lt. shorter b a.1 ts (f a) (g a) (omega (arith, lt)) (k a lt))

-- ---- by turns

module _ {X E L : Type 0} (more : X → L → L) (end : E → L) (out : Reader L) (outs : (b : Bool) (ts : List Token) → Grows b ts (out ts) (out ts)) where
  front_at_most : (n : ℕ) (h : L → L) (q : Read L) → AtMost n q → AtMost n (with_front h q)
  front_at_most n h (Ok x) a = a
  front_at_most n h (Err e) a = a

  front_fewer : (n : ℕ) (h : L → L) (q : Read L) → Fewer n q → Fewer n (with_front h q)
  front_fewer n h (Ok x) a = a
  front_fewer n h (Err e) a = a

  front_follows : (b : Bool) (h : L → L) (r q : Read L) → Follows b r q → Follows b (with_front h r) (with_front h q)
  front_follows false h r q a = tt
  front_follows true h (Ok x) q a = subst (λ (q : Read L). with_front h q ≡ Ok (h x.0, x.1)) (sym a) refl
  front_follows true h (Err (unexpected us)) q a = subst (λ (q : Read L). with_front h q ≡ Err (unexpected us)) (sym a) refl
  front_follows true h (Err (too_deep us)) q a = front_fewer (length us) h q a

  module _ (turn turn2 : Reader (Turn X E)) (others others2 : Reader L) where
    turn_at_most : (n : ℕ) (q : Read (Turn X E)) → AtMost n q → ((ts : List Token) → AtMost (length ts) (others2 ts)) → AtMost n (turn_then turn2 more end out others2 q)
    turn_at_most n (Ok (More x, ts)) h k = weaker (length ts) n (with_front (more x) (others2 ts)) h (front_at_most (length ts) (more x) (others2 ts) (k ts))
    turn_at_most n (Ok (End e, ts)) h k = h
    turn_at_most n (Err e) h k = h

    turn_fewer : (n : ℕ) (q : Read (Turn X E)) → Fewer n q → ((ts : List Token) → AtMost (length ts) (others2 ts)) → Fewer n (turn_then turn2 more end out others2 q)
    turn_fewer n (Ok (More x, ts)) h k = fewer (length ts) n (with_front (more x) (others2 ts)) h (front_at_most (length ts) (more x) (others2 ts) (k ts))
    turn_fewer n (Ok (End e, ts)) h k = h
    turn_fewer n (Err e) h k = h

    turn_follows : (b : Bool) (r q : Read (Turn X E)) → Follows b r q → ((ts : List Token) → Grows b ts (others ts) (others2 ts)) → Follows b (turn_then turn more end out others r) (turn_then turn2 more end out others2 q)
    turn_follows false r q h k = tt
    turn_follows true (Ok (More x, ts)) q h k = subst (λ (q : Read (Turn X E)). Follows true (with_front (more x) (others ts)) (turn_then turn2 more end out others2 q)) (sym h) (front_follows true (more x) (others ts) (others2 ts) (k ts).follows)
    turn_follows true (Ok (End e, ts)) q h k = subst (λ (q : Read (Turn X E)). turn_then turn2 more end out others2 q ≡ Ok (end e, ts)) (sym h) refl
    turn_follows true (Err (unexpected us)) q h k = subst (λ (q : Read (Turn X E)). turn_then turn2 more end out others2 q ≡ Err (unexpected us)) (sym h) refl
    turn_follows true (Err (too_deep us)) q h k = turn_fewer (length us) q h (λ ts. (k ts).at_most)

  pub turns_grow : (turn turn2 : Reader (Turn X E)) (b : Bool) → ((ts : List Token) → Grows b ts (turn ts) (turn2 ts)) → (n : ℕ) (ts : List Token) → Grows b ts (turns_at turn more end out n ts) (turns_at turn2 more end out n ts)
  unfolding turns_at
  turns_grow turn turn2 b law zero ts = outs b ts
  turns_grow turn turn2 b law (suc n) ts =
      let others = turns_at turn more end out n in
      let others2 = turns_at turn2 more end out n in
      record {
        at_most = turn_at_most turn turn2 others others2 (length ts) (turn2 ts) (law ts).at_most (λ ts. (turns_grow turn turn2 b law n ts).at_most);
        follows = turn_follows turn turn2 others others2 b (turn ts) (turn2 ts) (law ts).follows (λ ts. turns_grow turn turn2 b law n ts);
      }
