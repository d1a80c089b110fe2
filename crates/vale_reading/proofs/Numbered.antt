-- Numbers of names, by the set of their texts.
use Rattle.std.proofs.Common.{◌≡◌, ◌+◌, ◌<◌, ◌≤◌, drop, take, get_or, arith, ℕ, zero, suc, Bool, true, false, not, cond, nat_lt, List, [], ◌∷◌, ◌++◌, length, Option, Some, None, refl, sym, ap, subst, ◌∙◌, append_assoc}
use Rattle.std.specs.Prelude.{◌&&◌, ◌||◌, filter, position, option_map}
use Rattle.std.specs.List.{list_any, prefix_len}
use Rattle.std.specs.Str.{bytes_eq}
use Rattle.std.specs.Borrow.{Bor}
use Rattle.std.proofs.lemmas.Slice.Eq.{bytes_eq-Decides}
use Rattle.std.proofs.lemmas.List.{drop_all, take_all}
use Rattle.std.proofs.Math.Seq.{drop-cons}
use Rattle.std.proofs.lemmas.List.Folds.{list_any-append}
use Rattle.vale_base.specs.declared.name.Name.{Name}
use Rattle.vale_syntax.specs.declared.token.Token.{Token}
use Rattle.vale_syntax.specs.declared.token.TokenKind.{TokenKind}
use Rattle.vale_syntax.specs.declared.token.TokenKind.TheVariants as k
use Rattle.vale_syntax.specs.Grammar.{number_of, first_seen, texts_in, names_in}
use Rattle.vale_reading.specs.Seen.{nows, seen, seen_kind, seen_in}

-- ---- keys that are slices

length_nows : (ks : List (Bor (List ℕ))) → length (nows ks) ≡ length ks
length_nows [] = refl
length_nows (k ∷ ks) = ap suc (length_nows ks)

prefix_nows : (p : List ℕ → Bool) (ks : List (Bor (List ℕ))) → prefix_len (λ k. p k.now) ks ≡ prefix_len p (nows ks)
prefix_nows p [] = refl
prefix_nows p (k ∷ ks) = ap (λ (n : ℕ). cond (p k.now) (1 + n) 0) (prefix_nows p ks)

abbrev first_at : ℕ → ℕ → Option ℕ
first_at i n = cond (nat_lt i n) (Some i) None

position_nows : (text : List ℕ) (ks : List (Bor (List ℕ))) → position (λ k. bytes_eq text k.now) ks ≡ number_of (nows ks) text
position_nows text ks =
    let p : List ℕ → Bool = λ x. not (bytes_eq text x) in
    ap (λ (i : ℕ). first_at i (length ks)) (prefix_nows p ks) ∙ ap (λ (n : ℕ). first_at (prefix_len p (nows ks)) n) (sym (length_nows ks))

abbrev pub as_name : Option ℕ → Option Name
as_name o = option_map (λ n. record { 0 = n }) o

pub numbered_is : (text text2 : List ℕ) (ks : List (Bor (List ℕ))) (names : List (List ℕ)) (r : Option ℕ) → r ≡ position (λ k. bytes_eq text2 k.now) ks → text2 ≡ text → nows ks ≡ names → r ≡ number_of names text
numbered_is text text2 ks names r e same view = e ∙ (position_nows text2 ks ∙ (ap (λ (z : List (List ℕ)). number_of z text2) view ∙ ap (λ (z : List ℕ). number_of names z) same))

any_nows : (text : List ℕ) (ks : List (Bor (List ℕ))) → list_any (λ k. bytes_eq text k.now) ks ≡ list_any (bytes_eq text) (nows ks)
any_nows text [] = refl
any_nows text (k ∷ ks) = ap (λ (b : Bool). bytes_eq text k.now || b) (any_nows text ks)

map_more : (ks : List (Bor (List ℕ))) (k : Bor (List ℕ)) → nows (ks ++ k ∷ []) ≡ nows ks ++ k.now ∷ []
map_more [] k = refl
map_more (x ∷ ks) k = ap (λ (z : List (List ℕ)). x.now ∷ z) (map_more ks k)

insert_by : (ks : List (Bor (List ℕ))) (k : Bor (List ℕ)) (b : Bool) → nows (cond b ks (ks ++ k ∷ [])) ≡ cond b (nows ks) (nows ks ++ k.now ∷ [])
insert_by ks k true = refl
insert_by ks k false = map_more ks k

-- a key that is put into the set
pub insert_nows : (ks : List (Bor (List ℕ))) (k : Bor (List ℕ)) → nows (cond (list_any (λ x. bytes_eq k.now x.now) ks) ks (ks ++ k ∷ [])) ≡ seen (nows ks) k.now
insert_nows ks k = insert_by ks k (list_any (λ x. bytes_eq k.now x.now) ks) ∙ ap (λ (b : Bool). cond b (nows ks) (nows ks ++ k.now ∷ [])) (any_nows k.now ks)

-- ---- in the order of first sight

eq_sym : (x y : List ℕ) (a b : Bool) → bytes_eq x y ≡ a → bytes_eq y x ≡ b → bytes_eq x y ≡ bytes_eq y x
eq_sym x y true true h g = h ∙ sym g
eq_sym x y false false h g = h ∙ sym g
eq_sym x y true false h g = let same : x ≡ y = (bytes_eq-Decides x y).0 h in h ∙ sym ((bytes_eq-Decides y x).1 (sym same))
eq_sym x y false true h g = let same : y ≡ x = (bytes_eq-Decides y x).0 g in (bytes_eq-Decides x y).1 (sym same) ∙ sym g

both_by : (p q r : List ℕ → Bool) (x : List ℕ) (xs : List (List ℕ)) (b : Bool) → q x ≡ b → r x ≡ (b && p x) → filter p (filter q xs) ≡ filter r xs → filter p (filter q (x ∷ xs)) ≡ filter r (x ∷ xs)
both_by p q r x xs true h g e = rw (h, g, ← e) refl
both_by p q r x xs false h g e = rw (h, g, ← e) refl

filter_both : (p q r : List ℕ → Bool) → ((x : List ℕ) → r x ≡ (q x && p x)) → (xs : List (List ℕ)) → filter p (filter q xs) ≡ filter r xs
filter_both p q r e [] = refl
filter_both p q r e (x ∷ xs) = both_by p q r x xs (q x) refl (e x) (filter_both p q r e xs)

abbrev fresh : List (List ℕ) → List ℕ → Bool
fresh ks x = not (list_any (bytes_eq x) ks)

abbrev other : List ℕ → List ℕ → Bool
other x y = not (bytes_eq x y)

all_seen : List (List ℕ) → List (List ℕ) → List (List ℕ)
all_seen ks [] = ks
all_seen ks (x ∷ xs) = all_seen (seen ks x) xs

or_false : (a : Bool) → (a || false) ≡ a
or_false true = refl
or_false false = refl

not_or : (a b : Bool) → not (a || b) ≡ (not b && not a)
not_or true true = refl
not_or true false = refl
not_or false true = refl
not_or false false = refl

-- after one more that was new
fresh_more : (ks : List (List ℕ)) (x y : List ℕ) → fresh (ks ++ x ∷ []) y ≡ (other x y && fresh ks y)
fresh_more ks x y =
    ap not (list_any-append (bytes_eq y) ks (x ∷ [])) ∙ (ap (λ (b : Bool). not (list_any (bytes_eq y) ks || b)) (or_false (bytes_eq y x)) ∙ (not_or (list_any (bytes_eq y) ks) (bytes_eq y x) ∙ ap (λ (b : Bool). not b && fresh ks y) (eq_sym y x (bytes_eq y x) (bytes_eq x y) refl refl)))

-- what is there is not other than each
old_by : (ks : List (List ℕ)) (x y : List ℕ) (b : Bool) → bytes_eq x y ≡ b → list_any (bytes_eq x) ks ≡ true → fresh ks y ≡ (not b && fresh ks y)
old_by ks x y true h g = let same : x ≡ y = (bytes_eq-Decides x y).0 h in subst (λ (z : List ℕ). fresh ks z ≡ false) same (ap not g)
old_by ks x y false h g = refl

seen_by : (ks : List (List ℕ)) (x : List ℕ) (xs : List (List ℕ)) (b : Bool) → list_any (bytes_eq x) ks ≡ b → ((ls : List (List ℕ)) → all_seen ls xs ≡ ls ++ filter (fresh ls) (first_seen xs))
    → all_seen (cond b ks (ks ++ x ∷ [])) xs ≡ ks ++ filter (fresh ks) (x ∷ filter (other x) (first_seen xs))
seen_by ks x xs true h law = law ks ∙ rw h (ap (λ (z : List (List ℕ)). ks ++ z) (sym (filter_both (fresh ks) (other x) (fresh ks) (λ y. old_by ks x y (bytes_eq x y) refl h) (first_seen xs))))
seen_by ks x xs false h law = law (ks ++ x ∷ []) ∙ rw h (append_assoc ks (x ∷ []) (filter (fresh (ks ++ x ∷ [])) (first_seen xs))
    ∙ ap (λ (z : List (List ℕ)). ks ++ x ∷ z) (sym (filter_both (fresh ks) (other x) (fresh (ks ++ x ∷ [])) (λ y. fresh_more ks x y) (first_seen xs))))

nil_append : (xs : List (List ℕ)) → xs ≡ xs ++ []
nil_append [] = refl
nil_append (x ∷ xs) = ap (λ (z : List (List ℕ)). x ∷ z) (nil_append xs)

all_seen_is : (xs ks : List (List ℕ)) → all_seen ks xs ≡ ks ++ filter (fresh ks) (first_seen xs)
unfolding all_seen
all_seen_is [] ks = nil_append ks
all_seen_is (x ∷ xs) ks = seen_by ks x xs (list_any (bytes_eq x) ks) refl (λ ls. all_seen_is xs ls)

filter_all : (xs : List (List ℕ)) → filter (fresh []) xs ≡ xs
filter_all [] = refl
filter_all (x ∷ xs) = ap (λ (z : List (List ℕ)). x ∷ z) (filter_all xs)

seen_in_by : (kind : TokenKind) (t : Token) (ts : List Token) (ks : List (List ℕ)) → t.kind ≡ kind → ((ls : List (List ℕ)) → seen_in ls ts ≡ all_seen ls (texts_in ts)) → seen_in (seen_kind ks kind) ts ≡ all_seen ks (texts_in (t ∷ ts))
unfolding all_seen
seen_in_by (k.Name text) t ts ks is law = rw is (law (seen ks text))
seen_in_by _ t ts ks is law = rw is (law ks)

seen_in_is : (ts : List Token) (ks : List (List ℕ)) → seen_in ks ts ≡ all_seen ks (texts_in ts)
unfolding all_seen
seen_in_is [] ks = refl
seen_in_is (t ∷ ts) ks = seen_in_by t.kind t ts ks refl (λ ls. seen_in_is ts ls)

pub seen_in_all : (ts : List Token) → seen_in [] ts ≡ names_in ts
seen_in_all ts = seen_in_is ts [] ∙ (all_seen_is (texts_in ts) [] ∙ filter_all (first_seen (texts_in ts)))

-- ---- token by token

pub seen_start : (ks : List (Bor (List ℕ))) (ts : List Token) → ks ≡ [] → seen_in (nows ks) ts ≡ names_in ts
seen_start ks ts e = ap (λ (z : List (Bor (List ℕ))). seen_in (nows z) ts) e ∙ seen_in_all ts

pub seen_next : (ks new : List (List ℕ)) (ts : List Token) (i : ℕ) (t : Token) (names : List (List ℕ)) → i < length ts → t ≡ get_or ts i t → new ≡ seen_kind ks t.kind → seen_in ks (drop i ts) ≡ names → seen_in new (drop (i + 1) ts) ≡ names
seen_next ks new ts i t names lt is e so_far =
    let next : suc i ≡ i + 1 = omega arith in
    let one : drop i ts ≡ t ∷ drop (i + 1) ts = drop-cons ts i t lt ∙ (ap (λ (x : Token). x ∷ drop (suc i) ts) (sym is) ∙ ap (λ (n : ℕ). t ∷ drop n ts) next) in
    ap (λ (z : List (List ℕ)). seen_in z (drop (i + 1) ts)) e ∙ (ap (λ (z : List Token). seen_in ks z) (sym one) ∙ so_far)

pub seen_done : (ks : List (List ℕ)) (ts : List Token) (i : ℕ) (names : List (List ℕ)) → length ts ≤ i → seen_in ks (drop i ts) ≡ names → ks ≡ names
seen_done ks ts i names le so_far = ap (λ (z : List Token). seen_in ks z) (sym (drop_all i ts le)) ∙ so_far

-- ---- a copy of the texts

take_next : (ks : List (Bor (List ℕ))) (i : ℕ) (d : Bor (List ℕ)) → i < length ks → take (suc i) ks ≡ take i ks ++ get_or ks i d ∷ []
take_next [] i d lt = absurd (omega (arith, lt))
take_next (x ∷ ks) zero d lt = refl
take_next (x ∷ ks) (suc i) d lt = let less : i < length ks = omega (arith, lt) in ap (λ (z : List (Bor (List ℕ))). x ∷ z) (take_next ks i d less)

pub took_next : (texts : List (List ℕ)) (ks : List (Bor (List ℕ))) (i : ℕ) (k : Bor (List ℕ)) (text : List ℕ) → i < length ks → k ≡ get_or ks i k → text ≡ k.now → texts ≡ nows (take i ks) → texts ++ text ∷ [] ≡ nows (take (i + 1) ks)
took_next texts ks i k text lt is same so_far =
    let next : i + 1 ≡ suc i = omega arith in
    let one : take (i + 1) ks ≡ take i ks ++ k ∷ [] = ap (λ (n : ℕ). take n ks) next ∙ (take_next ks i k lt ∙ ap (λ (x : Bor (List ℕ)). take i ks ++ x ∷ []) (sym is)) in
    ap (λ (z : List (List ℕ)). z ++ text ∷ []) so_far ∙ (ap (λ (z : List ℕ). nows (take i ks) ++ z ∷ []) same ∙ (sym (map_more (take i ks) k) ∙ ap nows (sym one)))

pub took_all : (texts names : List (List ℕ)) (ks : List (Bor (List ℕ))) (i : ℕ) → length ks ≤ i → texts ≡ nows (take i ks) → nows ks ≡ names → texts ≡ names
took_all texts names ks i le so_far view = so_far ∙ (ap nows (take_all i ks le) ∙ view)
