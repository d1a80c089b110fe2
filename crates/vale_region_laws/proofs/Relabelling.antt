-- Objects go over to another region: an isolate is merged, and a freeze ends.
use Rattle.std.proofs.Common.{◌≡◌, ◌≢◌, ◌≤◌, ℕ, ◌+◌, List, ◌∷◌, true, false, ◌⊎◌, inl, inr, refl, sym, ap, ◌∙◌, subst, arith}
use Rattle.vale_state_spec.specs.World.{Value, Own, Iso, Region, Freeze, Isolate, Object, World, Lives, IsDead, region_eq, moved, relabelled}
use Rattle.vale_region_laws.specs.Owned.{own, in_world, alive}
use Rattle.vale_region_laws.specs.Regions.{Each, Home, At, Homes, InRegion, Within, IsHomeBelow, IsBelow, Sees, Awaits, Holder, HolderFits, RegionFits, ObjectFits, held, Fits, scene, holding}
use Rattle.vale_region_laws.proofs.Counts.{same_self, not_same, at_most_one, in_one, world_relabelled, alive_relabelled, each_value, each_holder}
use Rattle.vale_region_laws.proofs.Growing.{to_below, in_below, within_by, sees_by, awaits_by, how_by}
use Rattle.vale_region_laws.proofs.Worlds.{region_which, goes, goes_same, goes_other, relabelled_in, relabelled_is, map_dead}

pub freeze_is_no_isolate : (a b : ℕ) → Freeze a ≡ Isolate b → ⊥
freeze_is_no_isolate a b e = cc

pub freezes_differ : (a b : ℕ) → Freeze a ≡ Freeze b → a ≡ b
freezes_differ a b e = cc

pub isolates_differ : (a b : ℕ) → Isolate a ≡ Isolate b → a ≡ b
isolates_differ a b e = cc

-- ---- in general

module _ (home after : Homes) (from to : Region) (w : World) where
  -- an isolate that stands somewhere isn't the one that ends, and its home goes with the region in which it stands
  abbrev IsoGoes : Region → Region → Value → Type 0
  IsoGoes r q v = (m : ℕ) → v ≡ Iso m → InRegion w m (Isolate m) → (d : ℕ) → home m ≡ At d → r ≡ Freeze d → (Isolate m ≢ from) × (e : ℕ) × (after m ≡ At e) × (q ≡ Freeze e)

  pub root_goes : (m : ℕ) → Isolate m ≢ from → InRegion w m (Isolate m) → InRegion (relabelled from to w) m (Isolate m)
  root_goes m ne h = subst (InRegion (relabelled from to w) m) (goes_other from to (Isolate m) ne) (relabelled_in from to w m (Isolate m) h)

  pub within_goes : (r q : Region) (v : Value) → goes from to r ≡ q → IsoGoes r q v → Within home w r v → Within after (relabelled from to w) q v
  within_goes r q v e g h = within_by home after w (relabelled from to w) r q v
      (λ m s x. subst (InRegion (relabelled from to w) m) e (relabelled_in from to w m r x)) at
      (λ m s x d y z. let k = g m s x d y z in (root_goes m k.0 x, k.1, k.2, k.3)) h
    where
      at : (m : ℕ) → IsDead w m ⊎ InRegion w m r → IsDead (relabelled from to w) m ⊎ InRegion (relabelled from to w) m q
      at m (inl d) = inl (map_dead (moved from to) w m refl d)
      at m (inr x) = inr (subst (InRegion (relabelled from to w) m) e (relabelled_in from to w m r x))

  -- what is seen goes over to a region that is as frozen
  pub sees_goes : (a b : ℕ) (v : Value) → ((n : ℕ) (o : Object) → Lives w n o → IsBelow home a o.region → IsBelow after b (goes from to o.region))
      → Sees home w a v → Sees after (relabelled from to w) b v
  sees_goes a b v g h = sees_by home after w (relabelled from to w) a b v (λ m d. map_dead (moved from to) w m refl d)
      (λ m x. inr (to_below after (relabelled from to w) b m (goes from to x.object.region) (relabelled_in from to w m x.object.region (in_below home w a m x)) (g m x.object x.lives x.below))) h

  -- each object, as it was and as it is
  pub objects_go : (c d : ℕ) → ((n : ℕ) (o : Object) → Lives w n o → ObjectFits home w c o)
      → ((n : ℕ) (o : Object) → Lives w n o → RegionFits w c o.region → RegionFits (relabelled from to w) d (goes from to o.region))
      → ((n : ℕ) (o : Object) → Lives w n o → RegionFits w c o.region → Each (Within home w o.region) o.values → Each (Within after (relabelled from to w) (goes from to o.region)) o.values)
      → (n : ℕ) (p : Object) → Lives (relabelled from to w) n p → ObjectFits after (relabelled from to w) d p
  objects_go c d f g k n p e =
      let x = relabelled_is from to w n p e in
      let y = f n x.0 x.1 in
      subst (ObjectFits after (relabelled from to w) d) x.2 (record { region = g n x.0 x.1 y.region; cells = k n x.0 x.1 y.region y.cells })

  pub once_goes : (hs gs : List Holder) → ((n : ℕ) → held n gs ≤ held n hs) → ((n : ℕ) → held n hs + in_world n w ≤ alive n w)
      → (n : ℕ) → held n gs + in_world n (relabelled from to w) ≤ alive n (relabelled from to w)
  once_goes hs gs le f n =
      let a = f n in let b = le n in let x = world_relabelled n w from to in let y = alive_relabelled n w from to in omega (arith, a, b, x, y)

-- ---- `merge`: the objects of an isolate at home at this depth join the innermost region

pub at_differ : (a b : ℕ) → At a ≡ At b → a ≡ b
at_differ a b e = cc

pub is_at : (a d : ℕ) (h : Home) → h ≡ At d → Freeze a ≡ Freeze d → h ≡ At a
is_at a d h e g = e ∙ ap At (sym (freezes_differ a d g))

module _ (home : Homes) (hs : List Holder) (w : World) (c n : ℕ) (f : Fits (scene home (holding c (Iso n) ∷ hs) w c)) where
  root : InRegion w n (Isolate n)
  root = f.holders.0.1.0

  at_home : home n ≡ At c
  at_home = is_at c f.holders.0.1.1 (home n) f.holders.0.1.2 f.holders.0.1.3

  elsewhere : held n hs + in_world n w ≤ 0
  elsewhere = let a = f.once n in let b = same_self n in let d = at_most_one n w in omega (arith, a, b, d)

  not_this : (m : ℕ) → own n (Iso m) ≤ 0 → Isolate m ≢ Isolate n
  not_this m le e = not_same n m (omega (arith, le)) (isolates_differ m n e)

  freezes_stay : (d : ℕ) → goes (Isolate n) (Freeze c) (Freeze d) ≡ Freeze d
  freezes_stay d = goes_other (Isolate n) (Freeze c) (Freeze d) (freeze_is_no_isolate d n)

  within_joined : (r : Region) (v : Value) → own n v ≤ 0 → Within home w r v → Within home (relabelled (Isolate n) (Freeze c) w) (goes (Isolate n) (Freeze c) r) v
  within_joined r v none h = within_goes home home (Isolate n) (Freeze c) w r (goes (Isolate n) (Freeze c) r) v refl
      (λ m s x d y z. (not_this m (subst (λ v. own n v ≤ 0) s none), d, y, ap (goes (Isolate n) (Freeze c)) z ∙ freezes_stay d)) h

  held_joined : (a : ℕ) (v : Value) → own n v ≤ 0 → Within home w (Freeze a) v → Within home (relabelled (Isolate n) (Freeze c) w) (Freeze a) v
  held_joined a v none h = subst (λ r. Within home (relabelled (Isolate n) (Freeze c) w) r v) (freezes_stay a) (within_joined (Freeze a) v none h)

  awaits_joined : (v : Value) → own n v ≤ 0 → Awaits home w v → Awaits home (relabelled (Isolate n) (Freeze c) w) v
  awaits_joined v none h = awaits_by home home w (relabelled (Isolate n) (Freeze c) w) v
      (λ m s x y. (root_goes home home (Isolate n) (Freeze c) w m (not_this m (subst (λ v. own n v ≤ 0) s none)) x, y)) h

  abbrev IsThis : Region → Type 0
  IsThis r = (Isolate n ≡ r) ⊎ (r ≢ Isolate n)

  this : (r : Region) → IsThis r
  this r = from (region_which r (Isolate n))
    where
      from : ((r ≡ Isolate n) × (region_eq r (Isolate n) ≡ true)) ⊎ ((r ≢ Isolate n) × (region_eq r (Isolate n) ≡ false)) → IsThis r
      from (inl p) = inl (sym p.0)
      from (inr p) = inr p.0

  -- an isolate that is seen joins a region that is seen
  below_joined : (a : ℕ) (r : Region) → IsBelow home a r → IsBelow home a (goes (Isolate n) (Freeze c) r)
  below_joined a r b = at (this r)
    where
      at : IsThis r → IsBelow home a (goes (Isolate n) (Freeze c) r)
      at (inl e) =
          let seen : IsHomeBelow a (home n) = subst (IsBelow home a) (sym e) b in
          subst (IsBelow home a) (sym (goes_same (Isolate n) (Freeze c)) ∙ ap (goes (Isolate n) (Freeze c)) e) (subst (IsHomeBelow a) at_home seen)
      at (inr ne) = subst (IsBelow home a) (sym (goes_other (Isolate n) (Freeze c) r ne)) b

  pub joined_fits : Fits (scene home (holding c (Own n) ∷ hs) (relabelled (Isolate n) (Freeze c) w) c)
  joined_fits = record {
    once = once_goes home home (Isolate n) (Freeze c) w (holding c (Iso n) ∷ hs) (holding c (Own n) ∷ hs) (λ k. omega arith) f.once;
    holders = (
      (omega arith, subst (InRegion (relabelled (Isolate n) (Freeze c) w) n) (goes_same (Isolate n) (Freeze c)) (relabelled_in (Isolate n) (Freeze c) w n (Isolate n) root)),
      each_holder _ _ n 0 hs (let b = elsewhere in omega (arith, b)) each f.holders.1,
    );
    objects = objects_go home home (Isolate n) (Freeze c) w c c f.objects (λ k o e. region o.region)
        (λ k o e r cells. each_value _ _ n 0 o.values (let a = in_one n w k o e in let b = elsewhere in omega (arith, a, b)) (within_joined o.region) cells);
  }
    where
      each : (h : Holder) → own n h.value ≤ 0 → HolderFits home w c h → HolderFits home (relabelled (Isolate n) (Freeze c) w) c h
      each h none x = (
        x.0,
        how_by home home w (relabelled (Isolate n) (Freeze c) w) c h.how h.value
            (λ a le. held_joined a h.value none)
            (λ a le. sees_goes home home (Isolate n) (Freeze c) w a a h.value (λ k o l. below_joined a o.region))
            (awaits_joined h.value none) x.0 x.1,
      )

      at : (r : Region) → IsThis r → RegionFits w c r → RegionFits (relabelled (Isolate n) (Freeze c) w) c (goes (Isolate n) (Freeze c) r)
      at r (inl s) h = subst (RegionFits (relabelled (Isolate n) (Freeze c) w) c) (sym (goes_same (Isolate n) (Freeze c)) ∙ ap (goes (Isolate n) (Freeze c)) s) (omega arith)
      at (Freeze d) (inr ne) h = subst (RegionFits (relabelled (Isolate n) (Freeze c) w) c) (sym (freezes_stay d)) h
      at (Isolate r) (inr ne) h =
          subst (RegionFits (relabelled (Isolate n) (Freeze c) w) c) (sym (goes_other (Isolate n) (Freeze c) (Isolate r) ne)) (root_goes home home (Isolate n) (Freeze c) w r ne h)

      region : (r : Region) → RegionFits w c r → RegionFits (relabelled (Isolate n) (Freeze c) w) c (goes (Isolate n) (Freeze c) r)
      region r h = at r (this r) h
