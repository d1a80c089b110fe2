-- What is held changes, and the world doesn't: an isolate waits or arrives, a freeze begins, references are taken.
use Rattle.std.proofs.Common.{◌≡◌, ◌≢◌, ◌≤◌, ℕ, suc, ◌+◌, List, [], ◌∷◌, Some, Bool, true, false, ◌==◌, if◌then◌else◌, inl, inr, refl, sym, ap, ◌∙◌, subst, arith}
use Rattle.std.specs.Prelude.{slice_get}
use Rattle.std.proofs.lemmas.Bool.{eq-eqb, eqb-true}
use Rattle.vale_state_spec.specs.State.{lent}
use Rattle.vale_state_spec.specs.World.{Value, Int, Truth, Text, Own, Ref, Iso, Region, Freeze, Isolate, Object, World, Lives}
use Rattle.vale_region_laws.specs.Owned.{own, in_world}
use Rattle.vale_region_laws.specs.Regions.{Each, Home, At, Waiting, Homes, Within, IsHomeBelow, IsBelow, Below, Sees, Awaits, How, Held, Seen, Waits, HowFits, HowDeep, Holder, HolderFits, RegionFits, ObjectFits, held, Fits, scene, holding, waiting, homed, IsNoDeeper, NoDeeper, IsNoIso}
use Rattle.vale_region_laws.proofs.Counts.{same_self, not_same, at_most_one, in_one, each_map, each_value, each_at}
use Rattle.vale_region_laws.proofs.Growing.{to_below, within_by, sees_by, awaits_by}
use Rattle.vale_region_laws.proofs.Relabelling.{is_at}

-- ---- an isolate that one holder has gets another home

pub homed_this : (n : ℕ) (h : Home) (home : Homes) → homed n h home n ≡ h
homed_this n h home = ap (λ b. if b then h else home n) (eq-eqb n n refl)

pub homed_other : (n : ℕ) (h : Home) (home : Homes) (m : ℕ) → m ≢ n → homed n h home m ≡ home m
homed_other n h home m ne = from (m == n) refl
  where
    from : (b : Bool) → (m == n) ≡ b → (if b then h else home m) ≡ home m
    from true e = absurd (ne (eqb-true m n e))
    from false e = refl

module _ (home : Homes) (h : Home) (hs : List Holder) (w : World) (c n : ℕ) (elsewhere : held n hs + in_world n w ≤ 0) where
  other : (m : ℕ) → own n (Iso m) ≤ 0 → homed n h home m ≡ home m
  other m le = homed_other n h home m (not_same n m (omega (arith, le)))

  within_homed : (r : Region) (v : Value) → own n v ≤ 0 → Within home w r v → Within (homed n h home) w r v
  within_homed r v none x = within_by home (homed n h home) w w r r v (λ m e y. y) (λ m y. y) (λ m e y d z q. (y, d, other m (subst (λ v. own n v ≤ 0) e none) ∙ z, q)) x

  awaits_homed : (v : Value) → own n v ≤ 0 → Awaits home w v → Awaits (homed n h home) w v
  awaits_homed v none x = awaits_by home (homed n h home) w w v (λ m e y z. (y, other m (subst (λ v. own n v ≤ 0) e none) ∙ z)) x

  below_homed : (a : ℕ) (r : Region) → (IsHomeBelow a (home n) → ⊥) → IsBelow home a r → IsBelow (homed n h home) a r
  below_homed a (Freeze d) never b = b
  below_homed a (Isolate r) never b = subst (IsHomeBelow a) (sym (homed_other n h home r (λ e. never (subst (λ k. IsHomeBelow a (home k)) e b)))) b

  sees_homed : (a : ℕ) (v : Value) → (IsHomeBelow a (home n) → ⊥) → Sees home w a v → Sees (homed n h home) w a v
  sees_homed a v never x = sees_by home (homed n h home) w w a a v (λ m d. d) (λ m b. inr (record { object = b.object; lives = b.lives; below = below_homed a b.object.region never b.below })) x

  pub object_homed : (k : ℕ) (o : Object) → Lives w k o → ObjectFits home w c o → ObjectFits (homed n h home) w c o
  object_homed k o e x = record {
    region = x.region;
    cells = each_value _ _ n 0 o.values (let a = in_one n w k o e in omega (arith, a, elsewhere)) (within_homed o.region) x.cells;
  }

  -- each other holder that sees what is frozen doesn't see this isolate
  abbrev pub DoesNotSee : How → Type 0
  DoesNotSee (Held a) = Unit {0}
  DoesNotSee (Seen a) = IsHomeBelow a (home n) → ⊥
  DoesNotSee Waits = Unit {0}

  how_homed : (how : How) (v : Value) → own n v ≤ 0 → DoesNotSee how → HowFits home w how v → HowFits (homed n h home) w how v
  how_homed (Held a) v none never x = within_homed (Freeze a) v none x
  how_homed (Seen a) v none never x = sees_homed a v never x
  how_homed Waits v none never x = awaits_homed v none x

  pub holders_homed : (gs : List Holder) → held n gs ≤ 0 → Each (λ g. DoesNotSee g.how) gs → Each (HolderFits home w c) gs → Each (HolderFits (homed n h home) w c) gs
  holders_homed [] le never x = tt
  holders_homed (g ∷ gs) le never x = ((x.0.0, how_homed g.how g.value (omega (arith, le)) never.0 x.0.1), holders_homed gs (omega (arith, le)) never.1 x.1)

-- It waits, at home nowhere: no `&imm` of a greater depth is there.
pub waits_fits : (home : Homes) (hs : List Holder) (w : World) (c n : ℕ) → Each (NoDeeper c) hs → Fits (scene home (holding c (Iso n) ∷ hs) w c)
    → Fits (scene (homed n Waiting home) (waiting (Iso n) ∷ hs) w c)
waits_fits home hs w c n low f = record {
  once = f.once;
  holders = ((tt, (f.holders.0.1.0, homed_this n Waiting home)), holders_homed home Waiting hs w c n elsewhere hs (omega (arith, elsewhere)) (each_map _ _ hs (λ g. unseen g.how) low) f.holders.1);
  objects = λ k o e. object_homed home Waiting hs w c n elsewhere k o e (f.objects k o e);
}
  where
    elsewhere : held n hs + in_world n w ≤ 0
    elsewhere = let a = f.once n in let b = same_self n in let d = at_most_one n w in omega (arith, a, b, d)

    at_home : home n ≡ At c
    at_home = is_at c f.holders.0.1.1 (home n) f.holders.0.1.2 f.holders.0.1.3

    unseen : (how : How) → IsNoDeeper c how → DoesNotSee home Waiting hs w c n elsewhere how
    unseen (Held a) le = tt
    unseen (Seen a) le = λ b. let x : IsHomeBelow a (At c) = subst (IsHomeBelow a) at_home b in absurd (omega (arith, x, le))
    unseen Waits le = tt

-- It arrives at the innermost depth.
pub arrives_fits : (home : Homes) (hs : List Holder) (w : World) (c n : ℕ) → Fits (scene home (waiting (Iso n) ∷ hs) w c)
    → Fits (scene (homed n (At c) home) (holding c (Iso n) ∷ hs) w c)
arrives_fits home hs w c n f = record {
  once = f.once;
  holders = ((omega arith, (f.holders.0.1.0, c, homed_this n (At c) home, refl)), holders_homed home (At c) hs w c n elsewhere hs (omega (arith, elsewhere)) (all hs) f.holders.1);
  objects = λ k o e. object_homed home (At c) hs w c n elsewhere k o e (f.objects k o e);
}
  where
    elsewhere : held n hs + in_world n w ≤ 0
    elsewhere = let a = f.once n in let b = same_self n in let d = at_most_one n w in omega (arith, a, b, d)

    unseen : (how : How) → DoesNotSee home (At c) hs w c n elsewhere how
    unseen (Held a) = tt
    unseen (Seen a) = λ b. subst (IsHomeBelow a) f.holders.0.1.1 b
    unseen Waits = tt

    all : (gs : List Holder) → Each (λ g. DoesNotSee home (At c) hs w c n elsewhere g.how) gs
    all [] = tt
    all (g ∷ gs) = (unseen g.how, all gs)

-- ---- a freeze begins

how_opens : (c : ℕ) (how : How) → HowDeep c how → HowDeep (suc c) how
how_opens c (Held a) le = omega (arith, le)
how_opens c (Seen a) le = omega (arith, le)
how_opens c Waits le = tt

pub opens_fits : (home : Homes) (hs : List Holder) (w : World) (c : ℕ) → Fits (scene home hs w c) → Fits (scene home hs w (suc c))
opens_fits home hs w c f = record {
  once = f.once;
  holders = each_map _ _ hs (λ h x. (how_opens c h.how x.0, x.1)) f.holders;
  objects = λ n o e. record { region = region o.region (f.objects n o e).region; cells = (f.objects n o e).cells };
}
  where
    region : (r : Region) → RegionFits w c r → RegionFits w (suc c) r
    region (Freeze d) h = omega (arith, h)
    region (Isolate r) h = h

-- ---- other holders of the same: some are dropped, put in another order, or written again, and references are added

pub held_fits : (home : Homes) (hs gs : List Holder) (w : World) (c : ℕ) → ((n : ℕ) → held n gs ≤ held n hs) → Each (HolderFits home w c) gs
    → Fits (scene home hs w c) → Fits (scene home gs w c)
held_fits home hs gs w c le fit f = record { once = λ n. let a = f.once n in let b = le n in omega (arith, a, b); holders = fit; objects = f.objects }

-- ---- which references

-- what is borrowed, and what is read through an owner or an `&X`: it leads where that led
pub lent_within : (home : Homes) (w : World) (r : Region) (v : Value) → IsNoIso v → Within home w r v → Within home w r (lent v)
lent_within home w r (Own n) never h = inr h
lent_within home w r (Ref n) never h = h
lent_within home w r (Iso n) never h = absurd never
lent_within home w r (Int z) never h = tt
lent_within home w r (Truth b) never h = tt
lent_within home w r (Text t) never h = tt

-- what leads to what is frozen, or stands in it, is seen as frozen
pub lent_seen : (home : Homes) (w : World) (a : ℕ) (r : Region) (v : Value) → IsBelow home a r → Within home w r v → Sees home w a (lent v)
lent_seen home w a r (Own n) b h = inr (to_below home w a n r h b)
lent_seen home w a r (Ref n) b (inl d) = inl d
lent_seen home w a r (Ref n) b (inr h) = inr (to_below home w a n r h b)
lent_seen home w a r (Iso n) b h =
    let d : IsBelow home a (Freeze h.1) = subst (IsBelow home a) h.3 b in
    inr (to_below home w a n (Isolate n) h.0 (subst (IsHomeBelow a) (sym h.2) d))
lent_seen home w a r (Int z) b h = tt
lent_seen home w a r (Truth t) b h = tt
lent_seen home w a r (Text t) b h = tt

-- an owner or an isolate that is seen so is alive
abbrev pub IsOwner : Value → ℕ → Type 0
IsOwner (Own m) n = m ≡ n
IsOwner (Iso m) n = m ≡ n
IsOwner _ n = ⊥

pub owner_alive : (home : Homes) (w : World) (a : ℕ) (r : Region) (v : Value) (n : ℕ) → IsBelow home a r → IsOwner v n → Within home w r v → Below home w a n
owner_alive home w a r (Own m) n b e h = subst (Below home w a) e (to_below home w a m r h b)
owner_alive home w a r (Iso m) n b e h =
    let d : IsBelow home a (Freeze h.1) = subst (IsBelow home a) h.3 b in
    subst (Below home w a) e (to_below home w a m (Isolate m) h.0 (subst (IsHomeBelow a) (sym h.2) d))
owner_alive home w a r (Ref m) n b e h = absurd e
owner_alive home w a r (Int z) n b e h = absurd e
owner_alive home w a r (Truth t) n b e h = absurd e
owner_alive home w a r (Text t) n b e h = absurd e

deeper_home : (a b : ℕ) (h : Home) → a ≤ b → IsHomeBelow a h → IsHomeBelow b h
deeper_home a b (At d) le x = omega (arith, le, x)
deeper_home a b Waiting le x = absurd x

pub deeper_below : (home : Homes) (a b : ℕ) (r : Region) → a ≤ b → IsBelow home a r → IsBelow home b r
deeper_below home a b (Freeze d) le x = omega (arith, le, x)
deeper_below home a b (Isolate r) le x = deeper_home a b (home r) le x

pub deeper_seen : (home : Homes) (w : World) (a b : ℕ) (v : Value) → a ≤ b → Sees home w a v → Sees home w b v
deeper_seen home w a b v le h = sees_by home home w w a b v (λ m d. d) (λ m x. inr (record { object = x.object; lives = x.lives; below = deeper_below home a b x.object.region le x.below })) h

-- what is read of a living object of the innermost region
pub read_within : (home : Homes) (hs : List Holder) (w : World) (c n : ℕ) (o : Object) (i : ℕ) (v : Value) → Lives w n o → o.region ≡ Freeze c → slice_get o.values i ≡ Some v
    → IsNoIso v → Fits (scene home hs w c) → Within home w (Freeze c) (lent v)
read_within home hs w c n o i v e inner g never f =
    lent_within home w (Freeze c) v never (subst (λ r. Within home w r v) inner (each_at _ o.values i v g (f.objects n o e).cells))

-- and of a frozen one
pub read_seen : (home : Homes) (hs : List Holder) (w : World) (c a n : ℕ) (b : Below home w a n) (i : ℕ) (v : Value) → slice_get b.object.values i ≡ Some v
    → Fits (scene home hs w c) → Sees home w a (lent v)
read_seen home hs w c a n b i v g f = lent_seen home w a b.object.region v b.below (each_at _ b.object.values i v g (f.objects n b.object b.lives).cells)
