-- The names of tokens have numbers.
use Rattle.std.proofs.Common.{◌≡◌, ◌<◌, ◌≤◌, ◌+◌, ℕ, zero, suc, Bool, true, false, not, cond, nat_lt, List, [], ◌∷◌, ◌++◌, length, Option, Some, None, refl, sym, ap, subst, ◌∙◌, arith}
use Rattle.std.specs.Prelude.{◌||◌, ◌&&◌, filter, position}
use Rattle.std.specs.List.{list_any, prefix_len}
use Rattle.std.specs.Str.{bytes_eq}
use Rattle.std.proofs.lemmas.Bool.{lt-ltb}
use Rattle.std.proofs.lemmas.Slice.Eq.{bytes_eq-Decides}
use Rattle.vale_syntax.specs.declared.token.Token.{Token}
use Rattle.vale_syntax.specs.declared.token.TokenKind.{TokenKind}
use Rattle.vale_syntax.specs.declared.token.TokenKind.TheVariants as k
use Rattle.vale_syntax.specs.Grammar.{number_of, texts_in, first_seen, names_in}
use Rattle.vale_prefix.proofs.Parts.{KnowsKind, Knows}

has : List (List ℕ) → List ℕ → Type 0
has names text = list_any (bytes_eq text) names ≡ true

pre_by : (p : List ℕ → Bool) (x : List ℕ) (xs : List (List ℕ)) (b : Bool) → p x ≡ b → (b || list_any p xs) ≡ true → (list_any p xs ≡ true → prefix_len (λ x. not (p x)) xs < length xs) → prefix_len (λ x. not (p x)) (x ∷ xs) < length (x ∷ xs)
pre_by p x xs true e h f = rw e (omega arith)
pre_by p x xs false e h f = rw e (let less : prefix_len (λ x. not (p x)) xs < length xs = f h in omega (arith, less))

pre_less : (p : List ℕ → Bool) (xs : List (List ℕ)) → list_any p xs ≡ true → prefix_len (λ x. not (p x)) xs < length xs
pre_less p [] h = absurd cc
pre_less p (x ∷ xs) h = pre_by p x xs (p x) refl h (pre_less p xs)

number_by : (names : List (List ℕ)) (text : List ℕ) (b : Bool) → nat_lt (prefix_len (λ x. not (bytes_eq text x)) names) (length names) ≡ b → b ≡ true → (n : ℕ) × number_of names text ≡ Some n
number_by names text true e f = (prefix_len (λ x. not (bytes_eq text x)) names, rw e refl)
number_by names text false e f = absurd cc

same_text : (x y : List ℕ) → bytes_eq x y ≡ true → x ≡ y
same_text x y e = (bytes_eq-Decides x y).0 e

itself : (x : List ℕ) → bytes_eq x x ≡ true
itself x = (bytes_eq-Decides x x).1 refl

-- what is there and not x is there after x was filtered out
other_by : (x text y : List ℕ) (ys : List (List ℕ)) (b c : Bool) → bytes_eq x y ≡ b → bytes_eq text y ≡ c → bytes_eq text x ≡ false → (c || list_any (bytes_eq text) ys) ≡ true
    → (list_any (bytes_eq text) ys ≡ true → list_any (bytes_eq text) (filter (λ other. not (bytes_eq x other)) ys) ≡ true) → list_any (bytes_eq text) (filter (λ other. not (bytes_eq x other)) (y ∷ ys)) ≡ true
other_by x text y ys true true e f other h k = let same : y ≡ x = sym (same_text x y e) in let yes : bytes_eq text x ≡ true = subst (λ (z : List ℕ). bytes_eq text z ≡ true) same f in absurd (cc (yes, other))
other_by x text y ys true false e f other h k = rw e (k h)
other_by x text y ys false true e f other h k = rw (e, f) refl
other_by x text y ys false false e f other h k = rw (e, f) (k h)

any_other : (x text : List ℕ) → bytes_eq text x ≡ false → (xs : List (List ℕ)) → list_any (bytes_eq text) xs ≡ true → list_any (bytes_eq text) (filter (λ other. not (bytes_eq x other)) xs) ≡ true
any_other x text other [] h = absurd cc
any_other x text other (y ∷ ys) h = other_by x text y ys (bytes_eq x y) (bytes_eq text y) refl refl other h (any_other x text other ys)

seen_by : (x text : List ℕ) (xs : List (List ℕ)) (b : Bool) → bytes_eq text x ≡ b → (b ≡ false → list_any (bytes_eq text) (first_seen xs) ≡ true) → list_any (bytes_eq text) (first_seen (x ∷ xs)) ≡ true
seen_by x text xs true e k = rw e refl
seen_by x text xs false e k = rw e (any_other x text e (first_seen xs) (k refl))

seen : (text : List ℕ) (xs : List (List ℕ)) → list_any (bytes_eq text) xs ≡ true → list_any (bytes_eq text) (first_seen xs) ≡ true
seen text [] h = absurd cc
seen text (x ∷ xs) h = seen_by x text xs (bytes_eq text x) refl (λ e. seen text xs (rest e h)) where
  rest : bytes_eq text x ≡ false → (bytes_eq text x || list_any (bytes_eq text) xs) ≡ true → list_any (bytes_eq text) xs ≡ true
  rest e h = subst (λ (b : Bool). (b || list_any (bytes_eq text) xs) ≡ true) e h

has_number : (names : List (List ℕ)) (text : List ℕ) → list_any (bytes_eq text) names ≡ true → (n : ℕ) × number_of names text ≡ Some n
has_number names text h = number_by names text (nat_lt (prefix_len (λ x. not (bytes_eq text x)) names) (length names)) refl (lt-ltb (prefix_len (λ x. not (bytes_eq text x)) names) (length names) (pre_less (bytes_eq text) names h))

or_right : (a b : Bool) → b ≡ true → (a || b) ≡ true
or_right true b e = refl
or_right false b e = e

-- each name that is one of the texts
known_by : (texts : List (List ℕ)) (t : Token) (ts : List Token) (kind : TokenKind) → t.kind ≡ kind → ((text : List ℕ) → list_any (bytes_eq text) (texts_in (t ∷ ts)) ≡ true → list_any (bytes_eq text) texts ≡ true)
    → (((text : List ℕ) → list_any (bytes_eq text) (texts_in ts) ≡ true → list_any (bytes_eq text) texts ≡ true) → Knows (first_seen texts) ts) → Knows (first_seen texts) (t ∷ ts)
known_by texts t ts (k.Name text) e h f = (subst (KnowsKind (first_seen texts)) (sym e) (has_number (first_seen texts) text (seen text texts (h text (rw (e, itself text) refl)))), f (λ x g. h x (rw e (or_right (bytes_eq x text) (list_any (bytes_eq x) (texts_in ts)) g))))
known_by texts t ts (k.Word x) e h f = (subst (KnowsKind (first_seen texts)) (sym e) tt, f (λ x g. h x (rw e g)))
known_by texts t ts (k.Sign x) e h f = (subst (KnowsKind (first_seen texts)) (sym e) tt, f (λ x g. h x (rw e g)))
known_by texts t ts (k.Number x) e h f = (subst (KnowsKind (first_seen texts)) (sym e) tt, f (λ x g. h x (rw e g)))
known_by texts t ts (k.Quote x) e h f = (subst (KnowsKind (first_seen texts)) (sym e) tt, f (λ x g. h x (rw e g)))

known : (texts : List (List ℕ)) (ts : List Token) → ((text : List ℕ) → list_any (bytes_eq text) (texts_in ts) ≡ true → list_any (bytes_eq text) texts ≡ true) → Knows (first_seen texts) ts
known texts [] h = tt
known texts (t ∷ ts) h = known_by texts t ts t.kind refl h (known texts ts)

pub knows_names : (ts : List Token) → Knows (names_in ts) ts
knows_names ts = known (texts_in ts) ts (λ text h. h)
