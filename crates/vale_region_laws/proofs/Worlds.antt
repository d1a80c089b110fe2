-- What a world has of a name after one step on it.
use Rattle.std.proofs.Common.{◌≡◌, ◌≢◌, ℕ, zero, suc, List, [], ◌∷◌, ◌++◌, length, map, Option, Some, None, Bool, true, false, ◌==◌, if◌then◌else◌, ◌⊎◌, inl, inr, refl, sym, ap, ◌∙◌, subst, arith}
use Rattle.std.specs.Prelude.{slice_get, slice_set}
use Rattle.std.proofs.lemmas.Bool.{eq-eqb, eqb-true}
use Rattle.vale_state_spec.specs.World.{Region, Freeze, Isolate, Object, World, Lives, IsDead, born, died, written, region_eq, moved, relabelled, unless_of, cleared}
use Rattle.vale_region_laws.specs.Regions.{InRegion}

-- ---- one more name

pub last_keeps : {A : Type 0} (w : List A) (x : A) (n : ℕ) (e : A) → slice_get w n ≡ Some e → slice_get (w ++ x ∷ []) n ≡ Some e
last_keeps [] x n e h = let y : ⊥ = cc in absurd y
last_keeps (y ∷ w) x zero e h = h
last_keeps (y ∷ w) x (suc n) e h = last_keeps w x n e h

pub last_new : {A : Type 0} (w : List A) (x : A) → slice_get (w ++ x ∷ []) (length w) ≡ Some x
last_new [] x = refl
last_new (y ∷ w) x = last_new w x

pub last_is : {A : Type 0} (w : List A) (x : A) (n : ℕ) (e : A) → slice_get (w ++ x ∷ []) n ≡ Some e → (slice_get w n ≡ Some e) ⊎ (x ≡ e)
last_is [] x zero e h = inr (let y : x ≡ e = cc in y)
last_is [] x (suc n) e h = let y : ⊥ = cc in absurd y
last_is (y ∷ w) x zero e h = inl h
last_is (y ∷ w) x (suc n) e h = last_is w x n e h

-- ---- a name has something else

pub set_goes : {A : Type 0} (w : List A) (n : ℕ) (x : A) (m : ℕ) (e : A) → slice_get w m ≡ Some e
    → ((m ≢ n) × (slice_get (slice_set w n x) m ≡ Some e)) ⊎ ((m ≡ n) × (slice_get (slice_set w n x) m ≡ Some x))
set_goes [] n x m e h = let y : ⊥ = cc in absurd y
set_goes (y ∷ w) zero x zero e h = inr (refl, refl)
set_goes (y ∷ w) zero x (suc m) e h = inl ((λ q. absurd (omega (arith, q))), h)
set_goes (y ∷ w) (suc n) x zero e h = inl ((λ q. absurd (omega (arith, q))), h)
set_goes (y ∷ w) (suc n) x (suc m) e h = from (set_goes w n x m e h)
  where
    from : ((m ≢ n) × (slice_get (slice_set w n x) m ≡ Some e)) ⊎ ((m ≡ n) × (slice_get (slice_set w n x) m ≡ Some x))
        → ((suc m ≢ suc n) × (slice_get (slice_set w n x) m ≡ Some e)) ⊎ ((suc m ≡ suc n) × (slice_get (slice_set w n x) m ≡ Some x))
    from (inl p) = inl ((λ q. p.0 (omega (arith, q))), p.1)
    from (inr p) = inr (ap suc p.0, p.1)

pub set_is : {A : Type 0} (w : List A) (n : ℕ) (x : A) (m : ℕ) (e : A) → slice_get (slice_set w n x) m ≡ Some e
    → ((m ≢ n) × (slice_get w m ≡ Some e)) ⊎ ((m ≡ n) × (x ≡ e))
set_is [] n x m e h = let y : ⊥ = cc in absurd y
set_is (y ∷ w) zero x zero e h = inr (refl, let y : x ≡ e = cc in y)
set_is (y ∷ w) zero x (suc m) e h = inl ((λ q. absurd (omega (arith, q))), h)
set_is (y ∷ w) (suc n) x zero e h = inl ((λ q. absurd (omega (arith, q))), h)
set_is (y ∷ w) (suc n) x (suc m) e h = from (set_is w n x m e h)
  where
    from : ((m ≢ n) × (slice_get w m ≡ Some e)) ⊎ ((m ≡ n) × (x ≡ e)) → ((suc m ≢ suc n) × (slice_get w m ≡ Some e)) ⊎ ((suc m ≡ suc n) × (x ≡ e))
    from (inl p) = inl ((λ q. p.0 (omega (arith, q))), p.1)
    from (inr p) = inr (ap suc p.0, p.1)

-- ---- all names

pub map_keeps : {A B : Type 0} (f : A → B) (w : List A) (n : ℕ) (e : A) → slice_get w n ≡ Some e → slice_get (map f w) n ≡ Some (f e)
map_keeps f [] n e h = let y : ⊥ = cc in absurd y
map_keeps f (y ∷ w) zero e h = let q : y ≡ e = cc in ap (λ x. Some (f x)) q
map_keeps f (y ∷ w) (suc n) e h = map_keeps f w n e h

pub map_is : {A B : Type 0} (f : A → B) (w : List A) (n : ℕ) (e : B) → slice_get (map f w) n ≡ Some e → (y : A) × (slice_get w n ≡ Some y) × (f y ≡ e)
map_is f [] n e h = let y : ⊥ = cc in absurd y
map_is f (y ∷ w) zero e h = (y, refl, let q : f y ≡ e = cc in q)
map_is f (y ∷ w) (suc n) e h = map_is f w n e h

-- ---- regions

pub region_which : (r q : Region) → ((r ≡ q) × (region_eq r q ≡ true)) ⊎ ((r ≢ q) × (region_eq r q ≡ false))
region_which (Freeze a) (Freeze b) = from (a == b) refl
  where
    from : (t : Bool) → (a == b) ≡ t → ((Freeze a ≡ Freeze b) × ((a == b) ≡ true)) ⊎ ((Freeze a ≢ Freeze b) × ((a == b) ≡ false))
    from true e = inl (ap Freeze (eqb-true a b e), e)
    from false e = inr ((λ q. let x : a ≡ b = cc in let y : (a == b) ≡ true = eq-eqb a b x in let z : true ≡ false = sym y ∙ e in let no : ⊥ = cc in no), e)
region_which (Freeze a) (Isolate b) = inr ((λ q. let no : ⊥ = cc in no), refl)
region_which (Isolate a) (Freeze b) = inr ((λ q. let no : ⊥ = cc in no), refl)
region_which (Isolate a) (Isolate b) = from (a == b) refl
  where
    from : (t : Bool) → (a == b) ≡ t → ((Isolate a ≡ Isolate b) × ((a == b) ≡ true)) ⊎ ((Isolate a ≢ Isolate b) × ((a == b) ≡ false))
    from true e = inl (ap Isolate (eqb-true a b e), e)
    from false e = inr ((λ q. let x : a ≡ b = cc in let y : (a == b) ≡ true = eq-eqb a b x in let z : true ≡ false = sym y ∙ e in let no : ⊥ = cc in no), e)

-- the region of what was of this one, where those of the first are of the second now
abbrev pub goes : Region → Region → Region → Region
goes from to r = if region_eq r from then to else r

pub goes_same : (from to : Region) → goes from to from ≡ to
goes_same from to = at (region_which from from)
  where
    at : ((from ≡ from) × (region_eq from from ≡ true)) ⊎ ((from ≢ from) × (region_eq from from ≡ false)) → goes from to from ≡ to
    at (inl p) = ap (λ b. if b then to else from) p.1
    at (inr p) = absurd (p.0 refl)

pub goes_other : (from to r : Region) → r ≢ from → goes from to r ≡ r
goes_other from to r ne = at (region_which r from)
  where
    at : ((r ≡ from) × (region_eq r from ≡ true)) ⊎ ((r ≢ from) × (region_eq r from ≡ false)) → goes from to r ≡ r
    at (inl p) = absurd (ne p.0)
    at (inr p) = ap (λ b. if b then to else r) p.1

abbrev pub region_of : Region → Option (Option Object) → Region
region_of r None = r
region_of r (Some None) = r
region_of r (Some (Some o)) = o.region

pub one_region : (w : World) (n : ℕ) (r q : Region) → InRegion w n r → InRegion w n q → r ≡ q
one_region w n r q h g = sym h.region ∙ (let e : slice_get w n ≡ Some (Some g.object) = g.lives in let x : Some (Some h.object) ≡ Some (Some g.object) = sym h.lives ∙ e in ap (region_of r) x) ∙ g.region

pub region_is : (w : World) (n : ℕ) (o : Object) (r : Region) → Lives w n o → InRegion w n r → o.region ≡ r
region_is w n o r e h = one_region w n o.region r (record { object = o; lives = e; region = refl }) h

-- the dead don't live
pub not_both : (w : World) (n : ℕ) (r : Region) → IsDead w n → InRegion w n r → ⊥
not_both w n r d h = let x : Some None ≡ Some (Some h.object) = sym d ∙ h.lives in let no : ⊥ = cc in no

-- ---- births

pub born_in : (w : World) (p : Object) (n : ℕ) (r : Region) → InRegion w n r → InRegion (born w p) n r
born_in w p n r h = record { object = h.object; lives = last_keeps w (Some p) n (Some h.object) h.lives; region = h.region }

pub born_is : (w : World) (p : Object) (n : ℕ) (o : Object) → Lives (born w p) n o → Lives w n o ⊎ (p ≡ o)
born_is w p n o e = at (last_is w (Some p) n (Some o) e)
  where
    at : (slice_get w n ≡ Some (Some o)) ⊎ (Some p ≡ Some o) → Lives w n o ⊎ (p ≡ o)
    at (inl x) = inl x
    at (inr x) = inr (let y : p ≡ o = cc in y)

-- ---- writing

pub written_in : (w : World) (m : ℕ) (p q : Object) (n : ℕ) (r : Region) → Lives w m p → q.region ≡ p.region → InRegion w n r → InRegion (written w m q) n r
written_in w m p q n r e same h = at (set_goes w m (Some q) n (Some h.object) h.lives)
  where
    at : ((n ≢ m) × (slice_get (slice_set w m (Some q)) n ≡ Some (Some h.object))) ⊎ ((n ≡ m) × (slice_get (slice_set w m (Some q)) n ≡ Some (Some q))) → InRegion (written w m q) n r
    at (inl x) = record { object = h.object; lives = x.1; region = h.region }
    at (inr x) = record { object = q; lives = x.1; region = same ∙ region_is w m p r e (subst (λ k. InRegion w k r) x.0 h) }

-- the dead stay dead where another name changes
pub set_dead : (w : World) (m : ℕ) (p : Object) (x : Option Object) (n : ℕ) → Lives w m p → IsDead w n → IsDead (slice_set w m x) n
set_dead w m p x n e d = at (set_goes w m x n None d)
  where
    at : ((n ≢ m) × (slice_get (slice_set w m x) n ≡ Some None)) ⊎ ((n ≡ m) × (slice_get (slice_set w m x) n ≡ Some x)) → IsDead (slice_set w m x) n
    at (inl y) = y.1
    at (inr y) = absurd (not_both w m p.region (subst (IsDead w) y.0 d) (record { object = p; lives = e; region = refl }))

pub written_is : (w : World) (m : ℕ) (q : Object) (n : ℕ) (o : Object) → Lives (written w m q) n o → Lives w n o ⊎ (q ≡ o)
written_is w m q n o e = at (set_is w m (Some q) n (Some o) e)
  where
    at : ((n ≢ m) × (slice_get w n ≡ Some (Some o))) ⊎ ((n ≡ m) × (Some q ≡ Some o)) → Lives w n o ⊎ (q ≡ o)
    at (inl x) = inl x.1
    at (inr x) = inr (let h : Some q ≡ Some o = x.1 in let y : q ≡ o = cc in y)

-- ---- deaths

pub died_in : (w : World) (m n : ℕ) (r : Region) → n ≢ m → InRegion w n r → InRegion (died w m) n r
died_in w m n r ne h = at (set_goes w m None n (Some h.object) h.lives)
  where
    at : ((n ≢ m) × (slice_get (slice_set w m None) n ≡ Some (Some h.object))) ⊎ ((n ≡ m) × (slice_get (slice_set w m None) n ≡ Some None)) → InRegion (died w m) n r
    at (inl x) = record { object = h.object; lives = x.1; region = h.region }
    at (inr x) = absurd (ne x.0)

-- it lives on, or is the one that died
pub died_either : (w : World) (m n : ℕ) (r : Region) → InRegion w n r → IsDead (died w m) n ⊎ InRegion (died w m) n r
died_either w m n r h = at (set_goes w m None n (Some h.object) h.lives)
  where
    at : ((n ≢ m) × (slice_get (slice_set w m None) n ≡ Some (Some h.object))) ⊎ ((n ≡ m) × (slice_get (slice_set w m None) n ≡ Some None)) → IsDead (died w m) n ⊎ InRegion (died w m) n r
    at (inl x) = inr (record { object = h.object; lives = x.1; region = h.region })
    at (inr x) = inl x.1

pub died_is : (w : World) (m n : ℕ) (o : Object) → Lives (died w m) n o → (n ≢ m) × Lives w n o
died_is w m n o e = at (set_is w m None n (Some o) e)
  where
    at : ((n ≢ m) × (slice_get w n ≡ Some (Some o))) ⊎ ((n ≡ m) × (None ≡ Some o)) → (n ≢ m) × Lives w n o
    at (inl x) = x
    at (inr x) = let h : None ≡ Some o = x.1 in let no : ⊥ = cc in absurd no

-- ---- other regions

pub relabelled_in : (from to : Region) (w : World) (n : ℕ) (r : Region) → InRegion w n r → InRegion (relabelled from to w) n (goes from to r)
relabelled_in from to w n r h = record {
  object = record (h.object) { region = goes from to h.object.region };
  lives = map_keeps (moved from to) w n (Some h.object) h.lives;
  region = ap (goes from to) h.region;
}

pub map_dead : (f : Option Object → Option Object) (w : World) (n : ℕ) → f None ≡ None → IsDead w n → IsDead (map f w) n
map_dead f w n e d = map_keeps f w n None d ∙ ap Some e

pub relabelled_is : (from to : Region) (w : World) (n : ℕ) (p : Object) → Lives (relabelled from to w) n p → (o : Object) × Lives w n o × (record o { region = goes from to o.region } ≡ p)
relabelled_is from to w n p e = let r = map_is (moved from to) w n (Some p) e in at r.0 r.1 r.2
  where
    at : (y : Option Object) → slice_get w n ≡ Some y → moved from to y ≡ Some p → (o : Object) × Lives w n o × (record o { region = goes from to o.region } ≡ p)
    at None g h = let no : ⊥ = cc in absurd no
    at (Some o) g h = (o, g, unwrap (record o { region = goes from to o.region }) p h)
      where
        unwrap : (a b : Object) → Some a ≡ Some b → a ≡ b
        unwrap a b h = cc

-- ---- a region is cleared

pub cleared_stays : (q : Region) (w : World) (n : ℕ) (o : Object) → o.region ≢ q → Lives w n o → Lives (cleared q w) n o
cleared_stays q w n o ne e = map_keeps (unless_of q) w n (Some o) e ∙ ap Some (stays (region_which o.region q))
  where
    stays : ((o.region ≡ q) × (region_eq o.region q ≡ true)) ⊎ ((o.region ≢ q) × (region_eq o.region q ≡ false)) → unless_of q (Some o) ≡ Some o
    stays (inl x) = absurd (ne x.0)
    stays (inr x) = ap (λ b. if b then None else Some o) x.1

pub cleared_in : (q : Region) (w : World) (n : ℕ) (r : Region) → r ≢ q → InRegion w n r → InRegion (cleared q w) n r
cleared_in q w n r ne h = record {
  object = h.object;
  lives = cleared_stays q w n h.object (λ e. ne (sym h.region ∙ e)) h.lives;
  region = h.region;
}

pub cleared_gone : (q : Region) (w : World) (n : ℕ) → InRegion w n q → IsDead (cleared q w) n
cleared_gone q w n h = map_keeps (unless_of q) w n (Some h.object) h.lives ∙ ap Some (goes_away (region_which h.object.region q))
  where
    goes_away : ((h.object.region ≡ q) × (region_eq h.object.region q ≡ true)) ⊎ ((h.object.region ≢ q) × (region_eq h.object.region q ≡ false)) → unless_of q (Some h.object) ≡ None
    goes_away (inl x) = ap (λ b. if b then None else Some h.object) x.1
    goes_away (inr x) = absurd (x.0 h.region)

pub cleared_is : (q : Region) (w : World) (n : ℕ) (p : Object) → Lives (cleared q w) n p → Lives w n p × (p.region ≢ q)
cleared_is q w n p e = let r = map_is (unless_of q) w n (Some p) e in at r.0 r.1 r.2
  where
    chosen : (o : Object) → Lives w n o → ((o.region ≡ q) × (region_eq o.region q ≡ true)) ⊎ ((o.region ≢ q) × (region_eq o.region q ≡ false)) → unless_of q (Some o) ≡ Some p → Lives w n p × (p.region ≢ q)
    chosen o g (inl x) h = let y : None ≡ Some p = sym (ap (λ b. if b then None else Some o) x.1) ∙ h in let no : ⊥ = cc in absurd no
    chosen o g (inr x) h =
        let y : Some o ≡ Some p = sym (ap (λ b. if b then None else Some o) x.1) ∙ h in
        let z : o ≡ p = cc in
        (g ∙ ap Some y, subst (λ o. o.region ≢ q) z x.0)

    at : (y : Option Object) → slice_get w n ≡ Some y → unless_of q y ≡ Some p → Lives w n p × (p.region ≢ q)
    at None g h = let no : ⊥ = cc in absurd no
    at (Some o) g h = chosen o g (region_which o.region q) h
