-- A freeze ends: its region joins the one outside, is kept as an isolate, or is cleared.
use Rattle.std.proofs.Common.{◌≡◌, ◌≢◌, ◌≤◌, ℕ, zero, suc, ◌+◌, min, List, [], ◌∷◌, Option, Some, None, Bool, true, false, ◌==◌, if◌then◌else◌, ◌⊎◌, inl, inr, refl, sym, ap, ◌∙◌, subst, arith}
use Rattle.std.specs.Prelude.{slice_get}
use Rattle.std.proofs.lemmas.Bool.{eq-eqb, eqb-true}
use Rattle.vale_state_spec.specs.State.{living}
use Rattle.vale_state_spec.specs.World.{Value, Int, Truth, Text, Own, Ref, Iso, Region, Freeze, Isolate, Object, World, Lives, IsDead, relabelled, unless_of, cleared, region_eq}
use Rattle.vale_region_laws.specs.Owned.{same, own, in_world, alive, one_if}
use Rattle.vale_region_laws.specs.Regions.{Each, Home, At, Waiting, Homes, InRegion, Within, IsHomeBelow, IsBelow, Sees, How, Held, Seen, Waits, HowFits, HowDeep, Holder, HolderFits, RegionFits, ObjectFits, held, Fits, scene, holding, home_outside, lowered_home, kept_home, how_outside, lowered, lower_all, Outlives, MayLeave, Leaves, IsNoIso, HoldsNoIso}
use Rattle.vale_region_laws.proofs.Counts.{nothing_owned, each_none, lives_alive, world_cleared, each_map}
use Rattle.vale_region_laws.proofs.Growing.{to_below, in_below, within_by, sees_by, awaits_by}
use Rattle.vale_region_laws.proofs.Relabelling.{freeze_is_no_isolate, freezes_differ, root_goes, within_goes, sees_goes, objects_go, once_goes}
use Rattle.vale_region_laws.proofs.Worlds.{goes, goes_same, goes_other, region_which, one_region, relabelled_in, map_dead, cleared_in, cleared_is}

-- ---- holders that come to the depth outside

pub lower_each : (P Q R : Holder → Type 0) (c : ℕ) (hs : List Holder) → ((h : Holder) → P h → Q h → R (lowered c h)) → Each P hs → Each Q hs → Each R (lower_all c hs)
lower_each P Q R c [] f x y = tt
lower_each P Q R c (h ∷ hs) f x y = (f h x.0 y.0, lower_each P Q R c hs f x.1 y.1)

pub lower_held : (n c : ℕ) (hs : List Holder) → held n (lower_all c hs) ≡ held n hs
lower_held n c [] = refl
lower_held n c (h ∷ hs) = let x = lower_held n c hs in omega (arith, x)

pub isolate_is_no_freeze : (a b : ℕ) → Isolate a ≡ Freeze b → ⊥
isolate_is_no_freeze a b e = cc

abbrev Which : Region → Region → Type 0
Which r q = (q ≡ r) ⊎ (r ≢ q)

which : (r q : Region) → Which r q
which r q = from (region_which r q)
  where
    from : ((r ≡ q) × (region_eq r q ≡ true)) ⊎ ((r ≢ q) × (region_eq r q ≡ false)) → Which r q
    from (inl p) = inl (sym p.0)
    from (inr p) = inr p.0

-- ---- merged, and kept

below_outside : (a c : ℕ) (h : Home) → IsHomeBelow a h → IsHomeBelow a (home_outside c h)
below_outside a c (At d) b = omega (arith, b)
below_outside a c Waiting b = absurd b

-- where an isolate's home is lowered, but for one that wasn't there
module _ (home after : Homes) (w : World) (c : ℕ) (to : Region) (objects : (n : ℕ) (o : Object) → Lives w n o → ObjectFits home w (suc c) o)
    (lowers : (m : ℕ) → InRegion w m (Isolate m) → after m ≡ home_outside c (home m)) where
  isolate_stays : (m : ℕ) → InRegion w m (Isolate m) → InRegion (relabelled (Freeze (suc c)) to w) m (Isolate m)
  isolate_stays m h = root_goes home after (Freeze (suc c)) to w m (isolate_is_no_freeze m (suc c)) h

  comes_outside : (m d : ℕ) → InRegion w m (Isolate m) → home m ≡ At d → after m ≡ At (min d c)
  comes_outside m d h e = lowers m h ∙ ap (home_outside c) e

  below_lowers : (a : ℕ) → a ≤ suc c → (r : Region) → RegionFits w (suc c) r → IsBelow home a r → IsBelow after a (goes (Freeze (suc c)) to r)
  below_lowers a le (Freeze d) fits b = subst (IsBelow after a) (sym (goes_other (Freeze (suc c)) to (Freeze d) (λ e. let x = freezes_differ d (suc c) e in absurd (omega (arith, x, b, le))))) b
  below_lowers a le (Isolate r) fits b = subst (IsBelow after a) (sym (goes_other (Freeze (suc c)) to (Isolate r) (isolate_is_no_freeze r (suc c)))) (subst (IsHomeBelow a) (sym (lowers r fits)) (below_outside a c (home r) b))

  outlives : (a : ℕ) (v : Value) → Outlives v → Within home w (Freeze a) v → Within after (relabelled (Freeze (suc c)) to w) (Freeze (min a c)) v
  outlives a (Own n) o h = absurd o
  outlives a (Ref n) o h = absurd o
  outlives a (Iso n) o h = (isolate_stays n h.0, min h.1 c, comes_outside n h.1 h.0 h.2, ap Freeze (ap (λ k. min k c) (freezes_differ a h.1 h.3)))
  outlives a (Int z) o h = tt
  outlives a (Truth z) o h = tt
  outlives a (Text z) o h = tt

  -- what was written outside
  outer : (a : ℕ) (v : Value) → a ≤ c → Within home w (Freeze a) v → Within after (relabelled (Freeze (suc c)) to w) (Freeze (min a c)) v
  outer a v le h = within_goes home after (Freeze (suc c)) to w (Freeze a) (Freeze (min a c)) v
      (goes_other (Freeze (suc c)) to (Freeze a) (λ e. let y = freezes_differ a (suc c) e in absurd (omega (arith, y, le))) ∙ ap Freeze (let y : a ≡ min a c = omega (arith, le) in y))
      (λ m s x d y z. (isolate_is_no_freeze m (suc c), min d c, comes_outside m d x y, ap Freeze (ap (λ k. min k c) (freezes_differ a d z)))) h

  how_lowers : (how : How) (v : Value) → HowDeep (suc c) how → HowFits home w how v → MayLeave c how v → HowDeep c (how_outside c how) × HowFits after (relabelled (Freeze (suc c)) to w) (how_outside c how) v
  how_lowers (Held a) v deep x (inl le) = (omega arith, outer a v le x)
  how_lowers (Held a) v deep x (inr o) = (omega arith, outlives a v o x)
  how_lowers (Seen a) v deep x le = (le, sees_goes home after (Freeze (suc c)) to w a a v (λ n o l. below_lowers a le o.region (objects n o l).region) x)
  how_lowers Waits v deep x o = (tt, awaits_by home after w (relabelled (Freeze (suc c)) to w) v (λ m s y z. (isolate_stays m y, lowers m y ∙ ap (home_outside c) z)) x)

  pub holder_lowers : (h : Holder) → HolderFits home w (suc c) h → Leaves c h → HolderFits after (relabelled (Freeze (suc c)) to w) c (lowered c h)
  holder_lowers h x l = how_lowers h.how h.value x.0 x.1 l

  pub region_lowers : RegionFits (relabelled (Freeze (suc c)) to w) c to → (r : Region) → RegionFits w (suc c) r → RegionFits (relabelled (Freeze (suc c)) to w) c (goes (Freeze (suc c)) to r)
  region_lowers new r h = at r h (which r (Freeze (suc c)))
    where
      at : (r : Region) → RegionFits w (suc c) r → Which r (Freeze (suc c)) → RegionFits (relabelled (Freeze (suc c)) to w) c (goes (Freeze (suc c)) to r)
      at r h (inl e) = subst (RegionFits (relabelled (Freeze (suc c)) to w) c) (sym (goes_same (Freeze (suc c)) to) ∙ ap (goes (Freeze (suc c)) to) e) new
      at (Freeze d) h (inr ne) = subst (RegionFits (relabelled (Freeze (suc c)) to w) c) (sym (goes_other (Freeze (suc c)) to (Freeze d) ne)) (lower d h (λ e. ne (ap Freeze e)))
        where
          lower : (d : ℕ) → d ≤ suc c → d ≢ suc c → d ≤ c
          lower d le ne = omega (arith, le, ne)
      at (Isolate r) h (inr ne) = subst (RegionFits (relabelled (Freeze (suc c)) to w) c) (sym (goes_other (Freeze (suc c)) to (Isolate r) ne)) (isolate_stays r h)

  -- where an isolate stands, the region that holds it comes to its home
  pub cell_lowers : (r : Region) (v : Value) → ((m : ℕ) → v ≡ Iso m → (d : ℕ) → r ≡ Freeze d → goes (Freeze (suc c)) to r ≡ Freeze (min d c))
      → Within home w r v → Within after (relabelled (Freeze (suc c)) to w) (goes (Freeze (suc c)) to r) v
  cell_lowers r v g h = within_goes home after (Freeze (suc c)) to w r (goes (Freeze (suc c)) to r) v refl (λ m s x d y z. (isolate_is_no_freeze m (suc c), min d c, comes_outside m d x y, g m s d z)) h

-- a region of a freeze that stays is one at most of the depth outside
low : (d c : ℕ) → d ≤ suc c → d ≢ suc c → d ≡ min d c
low d c le ne = omega (arith, le, ne)

stays_low : (c d : ℕ) (r : Region) (w : World) → r ≢ Freeze (suc c) → RegionFits w (suc c) r → r ≡ Freeze d → r ≡ Freeze (min d c)
stays_low c d r w ne fits e = e ∙ ap Freeze (low d c (subst (RegionFits w (suc c)) e fits) (λ x. ne (e ∙ ap Freeze x)))

module _ (home : Homes) (hs : List Holder) (w : World) (c n : ℕ) (leave : Each (Leaves c) hs) (f : Fits (scene home (holding (suc c) (Own n) ∷ hs) w (suc c))) where
  ends_here : InRegion w n (Freeze (suc c))
  ends_here = f.holders.0.1

  owner_goes : (to : Region) → InRegion (relabelled (Freeze (suc c)) to w) n to
  owner_goes to = subst (InRegion (relabelled (Freeze (suc c)) to w) n) (goes_same (Freeze (suc c)) to) (relabelled_in (Freeze (suc c)) to w n (Freeze (suc c)) ends_here)

  -- `pure`: an owner comes out, and with it the whole region
  pub merged_fits : Fits (scene (lowered_home c home) (holding c (Own n) ∷ lower_all c hs) (relabelled (Freeze (suc c)) (Freeze c) w) c)
  merged_fits = record {
    once = once_goes home (lowered_home c home) (Freeze (suc c)) (Freeze c) w (holding (suc c) (Own n) ∷ hs) (holding c (Own n) ∷ lower_all c hs) (λ k. let x = lower_held k c hs in omega (arith, x)) f.once;
    holders = ((omega arith, owner_goes (Freeze c)), lower_each _ _ _ c hs (holder_lowers home (lowered_home c home) w c (Freeze c) f.objects (λ m h. refl)) f.holders.1 leave);
    objects = objects_go home (lowered_home c home) (Freeze (suc c)) (Freeze c) w (suc c) c f.objects
        (λ k o e. region_lowers home (lowered_home c home) w c (Freeze c) f.objects (λ m h. refl) (omega arith) o.region)
        (λ k o e r cells. each_map _ _ o.values (λ v. cell_lowers home (lowered_home c home) w c (Freeze c) f.objects (λ m h. refl) o.region v (λ m s d y. at o.region d (which o.region (Freeze (suc c))) r y)) cells);
  }
    where
      at : (r : Region) (d : ℕ) → Which r (Freeze (suc c)) → RegionFits w (suc c) r → r ≡ Freeze d → goes (Freeze (suc c)) (Freeze c) r ≡ Freeze (min d c)
      at r d (inl e) fits y = ap (goes (Freeze (suc c)) (Freeze c)) (sym e) ∙ goes_same (Freeze (suc c)) (Freeze c) ∙ ap Freeze (let x : suc c ≡ d = freezes_differ (suc c) d (e ∙ y) in let z : c ≡ min d c = omega (arith, x) in z)
      at r d (inr ne) fits y = goes_other (Freeze (suc c)) (Freeze c) r ne ∙ stays_low c d r w ne fits y

  -- `iso`: an owner comes out as an isolate of the whole region
  module _ (no_iso : HoldsNoIso w (Freeze (suc c))) where
    not_root : (m : ℕ) → InRegion w m (Isolate m) → m ≢ n
    not_root m h e = freeze_is_no_isolate (suc c) m (one_region w m (Freeze (suc c)) (Isolate m) (subst (λ k. InRegion w k (Freeze (suc c))) (sym e) ends_here) h)

    pub kept_lowers : (m : ℕ) → InRegion w m (Isolate m) → kept_home n c home m ≡ home_outside c (home m)
    kept_lowers m h = from (m == n) refl
      where
        from : (b : Bool) → (m == n) ≡ b → (if b then At c else home_outside c (home m)) ≡ home_outside c (home m)
        from true e = absurd (not_root m h (eqb-true m n e))
        from false e = refl

    kept_root : kept_home n c home n ≡ At c
    kept_root = ap (λ b. if b then At c else home_outside c (home n)) (eq-eqb n n refl)

    pub kept_fits : Fits (scene (kept_home n c home) (holding c (Iso n) ∷ lower_all c hs) (relabelled (Freeze (suc c)) (Isolate n) w) c)
    kept_fits = record {
      once = once_goes home (kept_home n c home) (Freeze (suc c)) (Isolate n) w (holding (suc c) (Own n) ∷ hs) (holding c (Iso n) ∷ lower_all c hs) (λ k. let x = lower_held k c hs in omega (arith, x)) f.once;
      holders = ((omega arith, (owner_goes (Isolate n), c, kept_root, refl)), lower_each _ _ _ c hs (holder_lowers home (kept_home n c home) w c (Isolate n) f.objects kept_lowers) f.holders.1 leave);
      objects = objects_go home (kept_home n c home) (Freeze (suc c)) (Isolate n) w (suc c) c f.objects
          (λ k o e. region_lowers home (kept_home n c home) w c (Isolate n) f.objects kept_lowers (owner_goes (Isolate n)) o.region)
          (λ k o e r cells. cells_go k o e r (which o.region (Freeze (suc c))) cells);
    }
      where
        no_such : (r : Region) (v : Value) → IsNoIso v → (m : ℕ) → v ≡ Iso m → (d : ℕ) → goes (Freeze (suc c)) (Isolate n) r ≡ Freeze (min d c)
        no_such r v h m e d = absurd (subst IsNoIso e h)

        without : (r : Region) (vs : List Value) → Each IsNoIso vs → Each (Within home w r) vs → Each (Within (kept_home n c home) (relabelled (Freeze (suc c)) (Isolate n) w) (goes (Freeze (suc c)) (Isolate n) r)) vs
        without r [] h g = tt
        without r (v ∷ vs) h g = (cell_lowers home (kept_home n c home) w c (Isolate n) f.objects kept_lowers r v (λ m s d y. no_such r v h.0 m s d) g.0, without r vs h.1 g.1)

        cells_go : (k : ℕ) (o : Object) → Lives w k o → RegionFits w (suc c) o.region → Which o.region (Freeze (suc c)) → Each (Within home w o.region) o.values
            → Each (Within (kept_home n c home) (relabelled (Freeze (suc c)) (Isolate n) w) (goes (Freeze (suc c)) (Isolate n) o.region)) o.values
        cells_go k o e r (inl s) cells = without o.region o.values (no_iso k o e (sym s)) cells
        cells_go k o e r (inr ne) cells = each_map _ _ o.values (λ v. cell_lowers home (kept_home n c home) w c (Isolate n) f.objects kept_lowers o.region v
            (λ m s d y. goes_other (Freeze (suc c)) (Isolate n) o.region ne ∙ stays_low c d o.region w ne r y)) cells

-- ---- cleared

module _ (home : Homes) (hs : List Holder) (w : World) (c : ℕ) (leave : Each (Leaves c) hs) (f : Fits (scene home hs w (suc c))) where
  abbrev ended : Region
  ended = Freeze (suc c)

  isolate_survives : (m : ℕ) → InRegion w m (Isolate m) → InRegion (cleared (Freeze (suc c)) w) m (Isolate m)
  isolate_survives m h = cleared_in (Freeze (suc c)) w m (Isolate m) (isolate_is_no_freeze m (suc c)) h

  within_survives : (r : Region) (v : Value) → r ≢ Freeze (suc c) → RegionFits w (suc c) r → Within home w r v → Within (lowered_home c home) (cleared (Freeze (suc c)) w) r v
  within_survives r v ne fits h = within_by home (lowered_home c home) w (cleared (Freeze (suc c)) w) r r v
      (λ m s x. cleared_in (Freeze (suc c)) w m r ne x) at (λ m s x d y z. (isolate_survives m x, min d c, ap (home_outside c) y, stays_low c d r w ne fits z)) h
    where
      at : (m : ℕ) → IsDead w m ⊎ InRegion w m r → IsDead (cleared (Freeze (suc c)) w) m ⊎ InRegion (cleared (Freeze (suc c)) w) m r
      at m (inl d) = inl (map_dead (unless_of (Freeze (suc c))) w m refl d)
      at m (inr x) = inr (cleared_in (Freeze (suc c)) w m r ne x)

  below_survives : (a : ℕ) → a ≤ suc c → (r : Region) → IsBelow home a r → (r ≢ Freeze (suc c)) × IsBelow (lowered_home c home) a r
  below_survives a le (Freeze d) b = ((λ e. let x = freezes_differ d (suc c) e in absurd (omega (arith, x, b, le))), b)
  below_survives a le (Isolate r) b = (isolate_is_no_freeze r (suc c), below_outside a c (home r) b)

  sees_survives : (a : ℕ) (v : Value) → a ≤ suc c → Sees home w a v → Sees (lowered_home c home) (cleared (Freeze (suc c)) w) a v
  sees_survives a v le h = sees_by home (lowered_home c home) w (cleared (Freeze (suc c)) w) a a v (λ m d. map_dead (unless_of (Freeze (suc c))) w m refl d)
      (λ m b. let y = below_survives a le b.object.region b.below in inr (to_below (lowered_home c home) (cleared (Freeze (suc c)) w) a m b.object.region (cleared_in (Freeze (suc c)) w m b.object.region y.0 (in_below home w a m b)) y.1)) h

  outlives_it : (a : ℕ) (v : Value) → Outlives v → Within home w (Freeze a) v → Within (lowered_home c home) (cleared (Freeze (suc c)) w) (Freeze (min a c)) v
  outlives_it a (Own n) o h = absurd o
  outlives_it a (Ref n) o h = absurd o
  outlives_it a (Iso n) o h = (isolate_survives n h.0, min h.1 c, ap (home_outside c) h.2, ap Freeze (ap (λ k. min k c) (freezes_differ a h.1 h.3)))
  outlives_it a (Int z) o h = tt
  outlives_it a (Truth z) o h = tt
  outlives_it a (Text z) o h = tt

  how_survives : (how : How) (v : Value) → HowDeep (suc c) how → HowFits home w how v → MayLeave c how v → HowDeep c (how_outside c how) × HowFits (lowered_home c home) (cleared (Freeze (suc c)) w) (how_outside c how) v
  how_survives (Held a) v deep x (inl le) = (
    omega arith,
    subst (λ k. Within (lowered_home c home) (cleared (Freeze (suc c)) w) (Freeze k) v) (let y : a ≡ min a c = omega (arith, le) in y)
        (within_survives (Freeze a) v (λ e. let y = freezes_differ a (suc c) e in absurd (omega (arith, y, le))) deep x),
  )
  how_survives (Held a) v deep x (inr o) = (omega arith, outlives_it a v o x)
  how_survives (Seen a) v deep x le = (le, sees_survives a v le x)
  how_survives Waits v deep x o = (tt, awaits_by home (lowered_home c home) w (cleared (Freeze (suc c)) w) v (λ m s y z. (isolate_survives m y, ap (home_outside c) z)) x)

  holder_survives : (h : Holder) → HolderFits home w (suc c) h → Leaves c h → HolderFits (lowered_home c home) (cleared (Freeze (suc c)) w) c (lowered c h)
  holder_survives h x l = how_survives h.how h.value x.0 x.1 l

  region_survives : (r : Region) → r ≢ Freeze (suc c) → RegionFits w (suc c) r → RegionFits (cleared (Freeze (suc c)) w) c r
  region_survives (Freeze d) ne h = lower d h (λ e. ne (ap Freeze e))
    where
      lower : (d : ℕ) → d ≤ suc c → d ≢ suc c → d ≤ c
      lower d le ne = omega (arith, le, ne)
  region_survives (Isolate r) ne h = isolate_survives r h

  -- what is cleared is owned by nothing that stays
  module _ (n : ℕ) (gone : InRegion w n (Freeze (suc c))) where
    same_zero : (m : ℕ) → n ≢ m → same n m ≡ 0
    same_zero m ne = from n m ne
      where
        from : (n m : ℕ) → n ≢ m → same n m ≡ 0
        from zero zero ne = absurd (ne refl)
        from zero (suc m) ne = refl
        from (suc n) zero ne = refl
        from (suc n) (suc m) ne = from n m (λ e. ne (ap suc e))

    elsewhere : (m : ℕ) (r : Region) → r ≢ Freeze (suc c) → InRegion w m r → same n m ≡ 0
    elsewhere m r ne h = same_zero m (λ e. ne (one_region w m r (Freeze (suc c)) h (subst (λ k. InRegion w k (Freeze (suc c))) e gone)))

    not_owned : (r : Region) (v : Value) → r ≢ Freeze (suc c) → Within home w r v → own n v ≡ 0
    not_owned r (Own m) ne h = elsewhere m r ne h
    not_owned r (Iso m) ne h = elsewhere m (Isolate m) (isolate_is_no_freeze m (suc c)) h.0
    not_owned r (Ref m) ne h = refl
    not_owned r (Int z) ne h = refl
    not_owned r (Truth b) ne h = refl
    not_owned r (Text t) ne h = refl

    not_held_by : (how : How) (v : Value) → MayLeave c how v → HowFits home w how v → own n v ≡ 0
    not_held_by (Held a) (Own m) (inr o) h = absurd o
    not_held_by (Held a) (Own m) (inl le) h = not_owned (Freeze a) (Own m) (λ e. let y = freezes_differ a (suc c) e in absurd (omega (arith, y, le))) h
    not_held_by (Held a) (Iso m) l h = elsewhere m (Isolate m) (isolate_is_no_freeze m (suc c)) h.0
    not_held_by (Held a) (Ref m) l h = refl
    not_held_by (Held a) (Int z) l h = refl
    not_held_by (Held a) (Truth b) l h = refl
    not_held_by (Held a) (Text t) l h = refl
    not_held_by (Seen a) (Own m) l h = absurd h
    not_held_by (Seen a) (Iso m) l h = absurd h
    not_held_by (Seen a) (Ref m) l h = refl
    not_held_by (Seen a) (Int z) l h = refl
    not_held_by (Seen a) (Truth b) l h = refl
    not_held_by (Seen a) (Text t) l h = refl
    not_held_by Waits (Own m) l h = absurd h
    not_held_by Waits (Iso m) l h = elsewhere m (Isolate m) (isolate_is_no_freeze m (suc c)) h.0
    not_held_by Waits (Ref m) l h = absurd h
    not_held_by Waits (Int z) l h = refl
    not_held_by Waits (Truth b) l h = refl
    not_held_by Waits (Text t) l h = refl

    pub not_held : (gs : List Holder) → Each (HolderFits home w (suc c)) gs → Each (Leaves c) gs → held n gs ≡ 0
    not_held [] x y = refl
    not_held (h ∷ gs) x y = let a = not_held_by h.how h.value y.0 x.0.1 in let b = not_held gs x.1 y.1 in omega (arith, a, b)

    not_in_world : in_world n (cleared (Freeze (suc c)) w) ≡ 0
    not_in_world = nothing_owned n (cleared (Freeze (suc c)) w) (λ k o e. let x = cleared_is (Freeze (suc c)) w k o e in each_none _ n o.values (λ v. not_owned o.region v x.1) (f.objects k o x.0).cells)

  once_survives : (n : ℕ) → held n (lower_all c hs) + in_world n (cleared (Freeze (suc c)) w) ≤ alive n (cleared (Freeze (suc c)) w)
  once_survives n = at (slice_get w n) refl
    where
      none_left : (x : Option (Option Object)) → slice_get w n ≡ x → one_if (living x) ≡ 0 → held n (lower_all c hs) + in_world n (cleared (Freeze (suc c)) w) ≤ alive n (cleared (Freeze (suc c)) w)
      none_left x e z =
          let a = f.once n in let b = ap (λ x. one_if (living x)) e in let d = lower_held n c hs in let g = world_cleared n w (Freeze (suc c)) in
          omega (arith, a, b, z, d, g)

      alive_by : (o : Object) → Lives w n o → Which o.region (Freeze (suc c)) → held n (lower_all c hs) + in_world n (cleared (Freeze (suc c)) w) ≤ alive n (cleared (Freeze (suc c)) w)
      alive_by o e (inl s) =
          let gone : InRegion w n (Freeze (suc c)) = record { object = o; lives = e; region = sym s } in
          let a = not_held n gone hs f.holders leave in let b = not_in_world n gone in let d = lower_held n c hs in
          omega (arith, a, b, d)
      alive_by o e (inr ne) =
          let on : InRegion (cleared (Freeze (suc c)) w) n o.region = cleared_in (Freeze (suc c)) w n o.region ne (record { object = o; lives = e; region = refl }) in
          let a = f.once n in let b = lives_alive n w o e in let d = lower_held n c hs in let g = world_cleared n w (Freeze (suc c)) in
          let i = lives_alive n (cleared (Freeze (suc c)) w) on.object on.lives in
          omega (arith, a, b, d, g, i)

      at : (x : Option (Option Object)) → slice_get w n ≡ x → held n (lower_all c hs) + in_world n (cleared (Freeze (suc c)) w) ≤ alive n (cleared (Freeze (suc c)) w)
      at None e = none_left None e refl
      at (Some None) e = none_left (Some None) e refl
      at (Some (Some o)) e = alive_by o e (which o.region (Freeze (suc c)))

  pub cleared_fits : Fits (scene (lowered_home c home) (lower_all c hs) (cleared (Freeze (suc c)) w) c)
  cleared_fits = record {
    once = once_survives;
    holders = lower_each _ _ _ c hs holder_survives f.holders leave;
    objects = λ n o e. let x = cleared_is (Freeze (suc c)) w n o e in record {
      region = region_survives o.region x.1 (f.objects n o x.0).region;
      cells = each_map _ _ o.values (λ v. within_survives o.region v x.1 (f.objects n o x.0).region) (f.objects n o x.0).cells;
    };
  }
