-- Labels, the places of which rise.
use Rattle.std.proofs.Common.{◌≡◌, ◌≢◌, ℕ, zero, suc, ◌+◌, ◌-◌, ◌<◌, ◌≤◌, List, [], ◌∷◌, length, get_or, take, drop, true, false, Some, None, Option, refl, sym, ap, ◌∙◌, arith, length-drop}
use Rattle.std.specs.Prelude.{nat_lt, ◌==◌, if◌then◌else◌}
use Rattle.std.proofs.lemmas.List.{take_all}
use Rattle.std.proofs.lemmas.Bool.{and_parts, ltb-true, ne_eqb, eq-eqb}
use Rattle.vale_cert.specs.Known.{label_at, rise, rise_from}
use Rattle.vale_cert.specs.declared.facts.Label.{Label}
use Rattle.vale_verifier.specs.Walking.{Ahead}

rising : (p : ℕ) (labels : List Label) → rise_from p labels ≡ true → Ahead (p + 1) labels
rising p [] e = tt
rising p (l ∷ labels) e =
    let a = and_parts (nat_lt p l.at) (rise_from l.at labels) e in
    let lt : p < l.at = ltb-true p l.at a.0 in
    (omega arith, rising l.at labels a.1)

pub all_ahead : (labels : List Label) → rise labels ≡ true → Ahead 0 labels
all_ahead [] e = tt
all_ahead (l ∷ labels) e = (omega arith, rising l.at labels e)

pub weaker : (q p : ℕ) (labels : List Label) → p ≤ q → Ahead q labels → Ahead p labels
weaker q p [] le a = tt
weaker q p (l ∷ labels) le a = (omega (arith, a.0), a.1)

-- ---- one label

pub at_first : (l : Label) (labels : List Label) (p : ℕ) → l.at ≡ p → label_at (l ∷ labels) p ≡ Some l
at_first l labels p e = let here : (l.at == p) ≡ true = eq-eqb l.at p e in rw here refl

pub past_first : (l : Label) (labels : List Label) (p : ℕ) → l.at ≢ p → label_at (l ∷ labels) p ≡ label_at labels p
past_first l labels p ne = let other : (l.at == p) ≡ false = ne_eqb l.at p ne in rw other refl

pub none_before : (q p : ℕ) (labels : List Label) → p < q → Ahead q labels → label_at labels p ≡ None
none_before q p [] lt a = refl
none_before q p (l ∷ labels) lt a =
    let ne : l.at ≢ p = omega (arith, a.0) in
    past_first l labels p ne ∙ none_before (l.at + 1) p labels (omega (arith, a.0)) a.1

-- no label lies before this place, and the first isn't at it
pub not_first : (l : Label) (labels : List Label) (p : ℕ) → l.at ≢ p → Ahead p (l ∷ labels) → label_at (l ∷ labels) p ≡ None
not_first l labels p ne a = past_first l labels p ne ∙ none_before (l.at + 1) p labels (omega (arith, a.0)) a.1

-- ---- after a place

pub further : (l : Label) (labels : List Label) (p : ℕ) → l.at ≢ p → Ahead p (l ∷ labels) → Ahead (p + 1) (l ∷ labels)
further l labels p ne a = (omega (arith, a.0), a.1)

pub behind_first : (l : Label) (labels : List Label) (p : ℕ) → l.at ≡ p → Ahead p (l ∷ labels) → Ahead (p + 1) labels
behind_first l labels p e a = weaker (l.at + 1) (p + 1) labels (omega arith) a.1

pub same_behind : (l : Label) (labels : List Label) (p q : ℕ) → l.at ≡ p → p < q → label_at labels q ≡ label_at (l ∷ labels) q
same_behind l labels p q e lt = let ne : l.at ≢ q = omega arith in sym (past_first l labels q ne)

-- ---- the first label of some

pub none_at_front : (labels : List Label) (l : Label) (p : ℕ) → 1 ≤ length labels → l ≡ get_or labels 0 l → l.at ≢ p → Ahead p labels → None ≡ label_at labels p
none_at_front [] l p some is ne a = absurd (omega arith)
none_at_front (m ∷ labels) l p some is ne a =
    let same : l.at ≡ m.at = ap (λ (x : Label). x.at) is in
    let other : m.at ≢ p = omega (arith, same) in
    sym (not_first m labels p other a)

pub only_there : (labels : List Label) (l : Label) (p : ℕ) → 1 ≤ length labels → l ≡ get_or labels 0 l → l.at ≡ p → Some l ≡ label_at labels p
only_there [] l p some is e = absurd (omega arith)
only_there (m ∷ labels) l p some is e =
    let same : m.at ≡ p = ap (λ (x : Label). x.at) (sym is) ∙ e in
    ap Some is ∙ sym (at_first m labels p same)

pub only_other : (labels : List Label) (l : Label) (p : ℕ) → length labels ≤ 1 → 1 ≤ length labels → l ≡ get_or labels 0 l → l.at ≢ p → None ≡ label_at labels p
only_other [] l p few some is ne = absurd (omega arith)
only_other (m ∷ n ∷ labels) l p few some is ne = absurd (omega arith)
only_other (m ∷ []) l p few some is ne =
    let same : l.at ≡ m.at = ap (λ (x : Label). x.at) is in
    let other : m.at ≢ p = omega (arith, same) in
    sym (past_first m [] p other)

-- ---- by halves

pub front_ahead : (k q : ℕ) (labels : List Label) → Ahead q labels → Ahead q (take k labels)
front_ahead zero q labels a = tt
front_ahead (suc k) q [] a = tt
front_ahead (suc k) q (l ∷ labels) a = (a.0, front_ahead k (l.at + 1) labels a.1)

pub back_ahead : (k q : ℕ) (labels : List Label) → Ahead q labels → Ahead 0 (drop k labels)
back_ahead zero q labels a = weaker q 0 labels (omega arith) a
back_ahead (suc k) q [] a = tt
back_ahead (suc k) q (l ∷ labels) a = back_ahead k (l.at + 1) labels a.1

-- the label in the middle
not_before : (k q : ℕ) (labels : List Label) (l : Label) → Ahead q labels → k < length labels → l ≡ get_or labels k l → q ≤ l.at
not_before k q [] l a lt is = absurd (omega arith)
not_before zero q (m ∷ labels) l a lt is = let same : l.at ≡ m.at = ap (λ (x : Label). x.at) is in omega (arith, same, a.0)
not_before (suc k) q (m ∷ labels) l a lt is =
    let le : m.at + 1 ≤ l.at = not_before k (m.at + 1) labels l a.1 (omega arith) is in
    omega (arith, le, a.0)

pub in_front : (k q p : ℕ) (labels : List Label) (l : Label) → Ahead q labels → k < length labels → l ≡ get_or labels k l → p < l.at → label_at (take k labels) p ≡ label_at labels p
in_front k q p [] l a lt is less = absurd (omega arith)
in_front zero q p (m ∷ labels) l a lt is less =
    let same : l.at ≡ m.at = ap (λ (x : Label). x.at) is in
    sym (none_before m.at p (m ∷ labels) (omega (arith, same)) (omega arith, a.1))
in_front (suc k) q p (m ∷ labels) l a lt is less = ap (λ (o : Option Label). if m.at == p then Some m else o) (in_front k (m.at + 1) p labels l a.1 (omega arith) is less)

pub in_back : (k q p : ℕ) (labels : List Label) (l : Label) → Ahead q labels → k < length labels → l ≡ get_or labels k l → l.at ≤ p → label_at (drop k labels) p ≡ label_at labels p
in_back k q p [] l a lt is le = absurd (omega arith)
in_back zero q p (m ∷ labels) l a lt is le = refl
in_back (suc k) q p (m ∷ labels) l a lt is le =
    let before : m.at + 1 ≤ l.at = not_before k (m.at + 1) labels l a.1 (omega arith) is in
    let ne : m.at ≢ p = omega (arith, before) in
    in_back k (m.at + 1) p labels l a.1 (omega arith) is le ∙ sym (past_first m labels p ne)

pub whole_back : (k : ℕ) (labels : List Label) → take (length labels - k) (drop k labels) ≡ drop k labels
whole_back k labels = take_all (length labels - k) (drop k labels) (omega (arith, length-drop k labels))
