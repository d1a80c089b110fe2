-- The test along edges decides what is reached.
use Rattle.std.proofs.Common.{◌≡◌, ℕ, List, [], ◌∷◌, ◌⊎◌, inl, inr, refl, sym, subst}
use Rattle.std.specs.Prelude.{Bool, true, false, ◌||◌, ◌&&◌}
use Rattle.std.proofs.lemmas.Bool.{eq-eqb, eqb-true}
use Rattle.vale_rules_spec.specs.Reach.{Edge, Leads, IsReached, here, along, is_reached}

or_cases : (a b c : Bool) → (a || (b && c)) ≡ true → (a ≡ true) ⊎ ((b ≡ true) × (c ≡ true))
or_cases true b c e = inl refl
or_cases false true c e = inr (refl, e)
or_cases false false c e = cc

or_left : (a b : Bool) → a ≡ true → (a || b) ≡ true
or_left true b e = refl
or_left false b e = cc

or_right : (a b c : Bool) → b ≡ true → c ≡ true → (a || (b && c)) ≡ true
or_right true b c e f = refl
or_right false true c e f = f
or_right false false c e f = cc

pub itself : (edges : List Edge) (m : ℕ) → is_reached edges m m ≡ true
itself [] m = eq-eqb m m refl
itself (edge ∷ edges) m = or_left _ _ (itself edges m)

pub itself_along : (edges : List Edge) (m n : ℕ) → m ≡ n → is_reached edges n m ≡ true
itself_along edges m n e = let P : ℕ → Type 0 = λ x. is_reached edges x m ≡ true in subst P e (itself edges m)

-- ---- what the test finds is reached

pub more_edges : (edge : Edge) (edges : List Edge) (m n : ℕ) → IsReached edges m n → IsReached (edge ∷ edges) m n
more_edges edge edges m n (here e) = here e
more_edges edge edges m n (along {k = k} l r) = along (inr l) (more_edges edge edges k n r)

pub joined : (edges : List Edge) (m k n : ℕ) → IsReached edges m k → IsReached edges k n → IsReached edges m n
joined edges m k n (here e) r = let P : ℕ → Type 0 = λ x. IsReached edges x n in subst P (sym e) r
joined edges m k n (along {k = j} l q) r = along l (joined edges j k n q r)

pub is_sound : (edges : List Edge) (m n : ℕ) → is_reached edges m n ≡ true → IsReached edges m n
is_sound [] m n e = here (eqb-true m n e)
is_sound (edge ∷ edges) m n e =
    elim (or_cases (is_reached edges m n) (is_reached edges m edge.0) (is_reached edges edge.1 n) e) [
      | inl h ↦ more_edges edge edges m n (is_sound edges m n h)
      | inr h ↦ joined (edge ∷ edges) m edge.0 n (more_edges edge edges m edge.0 (is_sound edges m edge.0 h.0)) (along (inl (refl, refl)) (more_edges edge edges edge.1 n (is_sound edges edge.1 n h.1)))
    ]

-- ---- what is reached the test finds

pub one_more : (edges : List Edge) (m k n : ℕ) → Leads edges m k → is_reached edges k n ≡ true → is_reached edges m n ≡ true
one_more [] m k n l e = elim l [ ]
one_more (edge ∷ edges) m k n (inl l) e =
    let to_edge : is_reached edges m edge.0 ≡ true = itself_along edges edge.0 m l.0 in
    elim (or_cases (is_reached edges k n) (is_reached edges k edge.0) (is_reached edges edge.1 n) e) [
      | inl h ↦ let P : ℕ → Type 0 = λ x. is_reached edges x n ≡ true in or_right (is_reached edges m n) (is_reached edges m edge.0) (is_reached edges edge.1 n) to_edge (subst P (sym l.1) h)
      | inr h ↦ or_right (is_reached edges m n) (is_reached edges m edge.0) (is_reached edges edge.1 n) to_edge h.1
    ]
one_more (edge ∷ edges) m k n (inr l) e =
    elim (or_cases (is_reached edges k n) (is_reached edges k edge.0) (is_reached edges edge.1 n) e) [
      | inl h ↦ or_left (is_reached edges m n) (is_reached edges m edge.0 && is_reached edges edge.1 n) (one_more edges m k n l h)
      | inr h ↦ or_right (is_reached edges m n) (is_reached edges m edge.0) (is_reached edges edge.1 n) (one_more edges m k edge.0 l h.0) h.1
    ]

pub is_complete : (edges : List Edge) (m n : ℕ) → IsReached edges m n → is_reached edges m n ≡ true
is_complete edges m n (here e) = let P : ℕ → Type 0 = λ x. is_reached edges m x ≡ true in subst P e (itself edges m)
is_complete edges m n (along {k = k} l r) = one_more edges m k n l (is_complete edges k n r)
