-- Nothing gets lost in a step that lets no owner go.
use Rattle.std.proofs.Common.{◌≡◌, ◌≢◌, ◌≤◌, ℕ, zero, suc, ◌+◌, List, [], ◌∷◌, ◌++◌, length, Some, None, true, false, if◌then◌else◌, ◌⊎◌, inl, inr, refl, sym, ap, ◌∙◌, subst, arith}
use Rattle.std.specs.Prelude.{slice_get, slice_set}
use Rattle.vale_state_spec.specs.State.{last_from, front_from}
use Rattle.vale_state_spec.specs.World.{Value, Int, Truth, Text, Own, Ref, Iso, Region, Freeze, Isolate, Object, World, Lives, born, died, written, region_eq, relabelled, cleared}
use Rattle.vale_region_laws.specs.Heights.{Full, LosesNothing}
use Rattle.vale_region_laws.specs.Owned.{same, own, in_values, in_object, in_world}
use Rattle.vale_region_laws.specs.Regions.{At, Homes, InRegion, Within, Holder, held, Scene, Fits, scene, holding, holding_all, waiting, lower_all}
use Rattle.vale_region_laws.specs.Steps.{Step, is_born, dies, is_set, is_pushed, is_popped, joins, opens, merges, keeps, clears, waits, arrives, is_held, object_of_kind}
use Rattle.vale_region_laws.proofs.Counts.{same_self, values_set, values_append, front_owns, world_set, world_born, world_relabelled, held_all, each_none}
use Rattle.vale_region_laws.proofs.Relabelling.{isolates_differ}
use Rattle.vale_region_laws.proofs.Thawing.{lower_held, isolate_is_no_freeze}
use Rattle.vale_region_laws.proofs.Worlds.{region_which, goes, goes_other, region_of, region_is, set_is, died_is, relabelled_is, cleared_is}

pub same_zero : (n m : ℕ) → n ≢ m → same n m ≡ 0
same_zero zero zero ne = absurd (ne refl)
same_zero zero (suc m) ne = refl
same_zero (suc n) zero ne = refl
same_zero (suc n) (suc m) ne = same_zero n m (λ e. ne (ap suc e))

last_where : {A : Type 0} (w : List A) (x : A) (n : ℕ) (e : A) → slice_get (w ++ x ∷ []) n ≡ Some e → (slice_get w n ≡ Some e) ⊎ (n ≡ length w)
last_where [] x zero e h = inr refl
last_where [] x (suc n) e h = let y : ⊥ = cc in absurd y
last_where (y ∷ w) x zero e h = inl h
last_where (y ∷ w) x (suc n) e h = at (last_where w x n e h)
  where
    at : (slice_get w n ≡ Some e) ⊎ (n ≡ length w) → (slice_get w n ≡ Some e) ⊎ (suc n ≡ suc (length w))
    at (inl p) = inl p
    at (inr p) = inr (ap suc p)

-- where what is cleared doesn't own it
cleared_same : (n : ℕ) (r : Region) (w : World) → ((k : ℕ) (o : Object) → Lives w k o → o.region ≡ r → in_values n o.values ≡ 0) → in_world n (cleared r w) ≡ in_world n w
cleared_same n r [] h = refl
cleared_same n r (None ∷ w) h = let x = cleared_same n r w (λ k. h (suc k)) in omega (arith, x)
cleared_same n r (Some o ∷ w) h = at (region_which o.region r) (cleared_same n r w (λ k. h (suc k)))
  where
    at : ((o.region ≡ r) × (region_eq o.region r ≡ true)) ⊎ ((o.region ≢ r) × (region_eq o.region r ≡ false)) → in_world n (cleared r w) ≡ in_world n w
        → in_object n (if region_eq o.region r then None else Some o) + in_world n (cleared r w) ≡ in_values n o.values + in_world n w
    at (inl p) e = let x = h zero o refl p.0 in let y = ap (λ b. in_object n (if b then None else Some o)) p.1 in omega (arith, e, x, y)
    at (inr p) e = let y = ap (λ b. in_object n (if b then None else Some o)) p.1 in omega (arith, e, y)

-- a root stays one where its isolate stays
was_no_root : (from to r : Region) (k : ℕ) → Isolate k ≢ from → goes from to r ≢ Isolate k → r ≢ Isolate k
was_no_root from to r k ne un e = un (ap (goes from to) e ∙ goes_other from to (Isolate k) ne)

module _ (hs gs : List Holder) (w : World) (n : ℕ) (o : Object) (vs : List Value) (lives : Lives w n o) where
  abbrev q : Object
  q = record o { values = vs }

  -- an object has other values, and what is owned is owned as often
  written_full : (home : Homes) (c : ℕ) → ((k : ℕ) → in_values k vs + held k gs ≡ in_values k o.values + held k hs) → Full (scene home hs w c) → Full (scene home gs (written w n (record o { values = vs })) c)
  written_full home c counts f = record { found = λ k p e un. at k p un (set_is w n (Some (record o { values = vs })) k (Some p) e) }
    where
      enough : (k : ℕ) → 1 ≤ held k hs + in_world k w → 1 ≤ held k gs + in_world k (written w n (record o { values = vs }))
      enough k le = let a = counts k in let b = world_set k w n o (Some (record o { values = vs })) lives in omega (arith, le, a, b)

      at : (k : ℕ) (p : Object) → p.region ≢ Isolate k → ((k ≢ n) × (slice_get w k ≡ Some (Some p))) ⊎ ((k ≡ n) × (Some (record o { values = vs }) ≡ Some p)) → 1 ≤ held k gs + in_world k (written w n (record o { values = vs }))
      at k p un (inl x) = enough k (f.found k p x.1 un)
      at k p un (inr x) =
          let same_region : o.region ≡ p.region = ap (λ y. region_of o.region (Some y)) x.1 in
          enough k (f.found k o (subst (λ k. Lives w k o) (sym x.0) lives) (λ e. un (sym same_region ∙ e)))

-- the counts stay, and so does each root but those of the first region
relabelled_full : (home after : Homes) (hs gs : List Holder) (w : World) (c d : ℕ) (from to : Region) → ((k : ℕ) → held k hs ≤ held k gs) → ((k : ℕ) → Isolate k ≡ from → 1 ≤ held k gs)
    → Full (scene home hs w c) → Full (scene after gs (relabelled from to w) d)
relabelled_full home after hs gs w c d from to le root f = record { found = λ k p e un. let x = relabelled_is from to w k p e in at k x.0 x.1 (λ g. un (ap (λ y. y.region) (sym x.2) ∙ g)) (region_which (Isolate k) from) }
  where
    at : (k : ℕ) (o : Object) → Lives w k o → goes from to o.region ≢ Isolate k → ((Isolate k ≡ from) × (region_eq (Isolate k) from ≡ true)) ⊎ ((Isolate k ≢ from) × (region_eq (Isolate k) from ≡ false)) → 1 ≤ held k gs + in_world k (relabelled from to w)
    at k o e un (inl p) = let a = root k p.0 in omega (arith, a)
    at k o e un (inr p) = let a = f.found k o e (was_no_root from to o.region k p.0 un) in let b = le k in let g = world_relabelled k w from to in omega (arith, a, b, g)

same_full : (home after : Homes) (hs gs : List Holder) (w : World) (c d : ℕ) → ((k : ℕ) → held k hs ≤ held k gs) → Full (scene home hs w c) → Full (scene after gs w d)
same_full home after hs gs w c d le f = record { found = λ k o e un. let a = f.found k o e un in let b = le k in omega (arith, a, b) }

pub step_full : (s t : Scene) (step : Step s t) → LosesNothing s t step → Fits s → Full s → Full t
step_full s t (is_born home hs w c kind vs) l f full = record { found = λ n o e un. at n o un (last_where w (Some (object_of_kind c kind vs)) n (Some o) e) }
  where
    at : (n : ℕ) (o : Object) → o.region ≢ Isolate n → (slice_get w n ≡ Some (Some o)) ⊎ (n ≡ length w) → 1 ≤ same n (length w) + held n hs + in_world n (born w (object_of_kind c kind vs))
    at n o un (inl e) = let a = full.found n o e un in let b = held_all n c vs hs in let d = world_born n w (object_of_kind c kind vs) in omega (arith, a, b, d)
    at n o un (inr e) = let a = ap (same n) e in let b = same_self n in omega (arith, a, b)
step_full s t (dies home hs w c n o lives) l f full = record { found = λ k p e un. at k p un (died_is w n k p e) }
  where
    at : (k : ℕ) (p : Object) → p.region ≢ Isolate k → (k ≢ n) × Lives w k p → 1 ≤ held k (holding_all c o.values hs) + in_world k (died w n)
    at k p un x =
        let a = full.found k p x.1 un in let b = held_all k c o.values hs in let d = world_set k w n o None lives in let g = same_zero k n x.0 in
        omega (arith, a, b, d, g)
step_full s t (is_set home hs w c n o i old new e r g) l f full =
    written_full (holding c new ∷ hs) (holding c old ∷ hs) w n o (slice_set o.values i new) e home c (λ k. let a = values_set k o.values i old new g in omega (arith, a)) full
step_full s t (is_pushed home hs w c n o new e r) l f full =
    written_full (holding c new ∷ hs) hs w n o (o.values ++ new ∷ []) e home c (λ k. let a = values_append k o.values new in omega (arith, a)) full
step_full s t (is_popped home hs w c n o v vs e r g) l f full =
    written_full hs (holding c (last_from v vs) ∷ hs) w n o (front_from v vs) e home c (λ k. let a = front_owns k v vs in let b = ap (in_values k) g in omega (arith, a, b)) full
step_full s t (joins home hs w c n) l f full =
    relabelled_full home home _ _ w c c (Isolate n) (Freeze c) (λ k. omega arith) (λ k e. let a = ap (same k) (isolates_differ k n e) in let b = same_self k in omega (arith, a, b)) full
step_full s t (opens home hs w c) l f full = same_full home home hs hs w c (suc c) (λ k. omega arith) full
step_full s t (merges home hs w c n m) l f full =
    relabelled_full home _ _ _ w (suc c) c (Freeze (suc c)) (Freeze c) (λ k. let a = lower_held k c hs in omega (arith, a)) (λ k e. absurd (isolate_is_no_freeze k (suc c) e)) full
step_full s t (keeps home hs w c n m i) l f full =
    relabelled_full home _ _ _ w (suc c) c (Freeze (suc c)) (Isolate n) (λ k. let a = lower_held k c hs in omega (arith, a)) (λ k e. absurd (isolate_is_no_freeze k (suc c) e)) full
step_full s t (clears home hs w c m) l f full = record { found = λ k p e un. let x = cleared_is (Freeze (suc c)) w k p e in at k p un x.0 x.1 }
  where
    not_owned : (k : ℕ) (p : Object) → Lives w k p → p.region ≢ Freeze (suc c) → p.region ≢ Isolate k → (r : Region) → r ≡ Freeze (suc c) → (v : Value) → Within home w r v → own k v ≡ 0
    not_owned k p e ne un r is (Own j) h = same_zero k j (λ g. ne (region_is w k p r e (subst (λ j. InRegion w j r) (sym g) h) ∙ is))
    not_owned k p e ne un r is (Iso j) h = same_zero k j (λ g. un (region_is w k p (Isolate j) e (subst (λ i. InRegion w i (Isolate j)) (sym g) h.0) ∙ ap Isolate (sym g)))
    not_owned k p e ne un r is (Ref j) h = refl
    not_owned k p e ne un r is (Int j) h = refl
    not_owned k p e ne un r is (Truth j) h = refl
    not_owned k p e ne un r is (Text j) h = refl

    at : (k : ℕ) (p : Object) → p.region ≢ Isolate k → Lives w k p → p.region ≢ Freeze (suc c) → 1 ≤ held k (lower_all c hs) + in_world k (cleared (Freeze (suc c)) w)
    at k p un e ne =
        let a = full.found k p e un in let b = lower_held k c hs in
        let d = cleared_same k (Freeze (suc c)) w (λ j o g is. each_none _ k o.values (not_owned k p e ne un o.region is) (f.objects j o g).cells) in
        omega (arith, a, b, d)
step_full s t (waits home hs w c n m) l f full = same_full home _ (holding c (Iso n) ∷ hs) (waiting (Iso n) ∷ hs) w c c (λ k. omega arith) full
step_full s t (arrives home hs w c n) l f full = same_full home _ (waiting (Iso n) ∷ hs) (holding c (Iso n) ∷ hs) w c c (λ k. omega arith) full
step_full s t (is_held home hs gs w c le fit) l f full = same_full home home hs gs w c c l full

pub begins_full : Full (scene (λ n. At 0) [] [] 0)
begins_full = record { found = λ n o e un. let y : ⊥ = cc in absurd y }
