-- What is frozen stays as it is.
use Rattle.std.proofs.Common.{◌≡◌, ◌≢◌, ◌≤◌, ◌<◌, ℕ, suc, min, List, Option, Some, None, ◌⊎◌, inl, inr, refl, sym, ap, ◌∙◌, subst, arith}
use Rattle.std.specs.Prelude.{slice_get, slice_set}
use Rattle.vale_state_spec.specs.World.{Value, Region, Freeze, Isolate, Object, World, Lives, born, moved, relabelled, unless_of, cleared}
use Rattle.vale_region_laws.specs.Regions.{Home, At, Waiting, Homes, InRegion, IsHomeBelow, IsBelow, Below, Sees, Holder, RegionFits, ObjectFits, Scene, SameHome, Kept, scene, home_outside, homed}
use Rattle.vale_region_laws.proofs.Growing.{sees_by}
use Rattle.vale_region_laws.proofs.Moving.{deeper_below, homed_other}
use Rattle.vale_region_laws.proofs.Relabelling.{freezes_differ}
use Rattle.vale_region_laws.proofs.Thawing.{isolate_is_no_freeze}
use Rattle.vale_region_laws.proofs.Worlds.{goes_other, region_is, set_goes, set_dead, last_keeps, map_keeps, map_dead, cleared_stays}

same_home : (home : Homes) (r : Region) → SameHome home home r
same_home home (Freeze d) = tt
same_home home (Isolate r) = refl

pub kept_same : (a : ℕ) (home : Homes) (hs gs : List Holder) (w : World) (c d : ℕ) → Kept a (scene home hs w c) (scene home gs w d)
kept_same a home hs gs w c d = record { frozen = λ n o e b. (e, same_home home o.region); dead = λ n e. e }

-- ---- later, and for a freeze further out

below_same : (home after : Homes) (a : ℕ) (r : Region) → SameHome home after r → IsBelow home a r → IsBelow after a r
below_same home after a (Freeze d) e b = b
below_same home after a (Isolate r) e b = subst (IsHomeBelow a) (sym e) b

same_later : (f g h : Homes) (r : Region) → SameHome f g r → SameHome g h r → SameHome f h r
same_later f g h (Freeze d) x y = tt
same_later f g h (Isolate r) x y = y ∙ x

pub kept_later : (a : ℕ) (s t u : Scene) → Kept a s t → Kept a t u → Kept a s u
kept_later a s t u k l = record {
  frozen = λ n o e b.
      let x = k.frozen n o e b in
      let y = l.frozen n o x.0 (below_same s.home t.home a o.region x.1 b) in
      (y.0, same_later s.home t.home u.home o.region x.1 y.1);
  dead = λ n e. l.dead n (k.dead n e);
}

pub kept_outer : (a b : ℕ) (s t : Scene) → a ≤ b → Kept b s t → Kept a s t
kept_outer a b s t le k = record { frozen = λ n o e x. k.frozen n o e (deeper_below s.home a b o.region le x); dead = k.dead }

-- what is seen alive stays alive, and every `&imm` goes on being one
pub below_kept : (a n : ℕ) (s t : Scene) → Kept a s t → Below s.home s.world a n → Below t.home t.world a n
below_kept a n s t k b = let x = k.frozen n b.object b.lives b.below in record { object = b.object; lives = x.0; below = below_same s.home t.home a b.object.region x.1 b.below }

pub sees_kept : (a : ℕ) (s t : Scene) (v : Value) → Kept a s t → Sees s.home s.world a v → Sees t.home t.world a v
sees_kept a s t v k h = sees_by s.home t.home s.world t.world a a v k.dead (λ m b. inr (below_kept a m s t k b)) h

-- ---- the steps

pub kept_born : (a : ℕ) (home : Homes) (hs gs : List Holder) (w : World) (c : ℕ) (o : Object) → Kept a (scene home hs w c) (scene home gs (born w o) c)
kept_born a home hs gs w c o = record { frozen = λ n p e b. (last_keeps w (Some o) n (Some p) e, same_home home p.region); dead = λ n e. last_keeps w (Some o) n None e }

-- an object of the innermost region changes or dies
pub kept_set : (a : ℕ) (home : Homes) (hs gs : List Holder) (w : World) (c n : ℕ) (o : Object) (x : Option Object) → a ≤ c → Lives w n o → o.region ≡ Freeze c
    → Kept a (scene home hs w c) (scene home gs (slice_set w n x) c)
kept_set a home hs gs w c n o x le lives inner = record {
  frozen = λ k p e b. (at k p e b (set_goes w n x k (Some p) e), same_home home p.region);
  dead = λ k e. set_dead w n o x k lives e;
}
  where
    at : (k : ℕ) (p : Object) → Lives w k p → IsBelow home a p.region
        → ((k ≢ n) × (slice_get (slice_set w n x) k ≡ Some (Some p))) ⊎ ((k ≡ n) × (slice_get (slice_set w n x) k ≡ Some x)) → Lives (slice_set w n x) k p
    at k p e b (inl y) = y.1
    at k p e b (inr y) =
        let q : p.region ≡ Freeze c = region_is w n p (Freeze c) (subst (λ k. Lives w k p) y.0 e) (record { object = o; lives = lives; region = inner }) in
        let z : c < a = subst (IsBelow home a) q b in absurd (omega (arith, z, le))

pub stays_by : (from to : Region) (w : World) (n : ℕ) (o : Object) → o.region ≢ from → Lives w n o → Lives (relabelled from to w) n o
stays_by from to w n o ne e = map_keeps (moved from to) w n (Some o) e ∙ ap (λ r. Some (Some (record o { region = r }))) (goes_other from to o.region ne)

pub kept_joined : (a : ℕ) (home : Homes) (hs gs : List Holder) (w : World) (c n : ℕ) → a ≤ c → home n ≡ At c → Kept a (scene home hs w c) (scene home gs (relabelled (Isolate n) (Freeze c) w) c)
kept_joined a home hs gs w c n le at_home = record {
  frozen = λ k p e b. (stays_by (Isolate n) (Freeze c) w k p (λ q. other p.region b q) e, same_home home p.region);
  dead = λ k e. map_dead (moved (Isolate n) (Freeze c)) w k refl e;
}
  where
    other : (r : Region) → IsBelow home a r → r ≢ Isolate n
    other r b q = let x : IsHomeBelow a (home n) = subst (IsBelow home a) q b in let y : c < a = subst (IsHomeBelow a) at_home x in absurd (omega (arith, y, le))

outside_same : (a c : ℕ) (h : Home) → a ≤ suc c → IsHomeBelow a h → home_outside c h ≡ h
outside_same a c (At d) le b = ap At (let e : min d c ≡ d = omega (arith, le, b) in e)
outside_same a c Waiting le b = absurd b

not_ended : (home : Homes) (a c : ℕ) (r : Region) → a ≤ suc c → IsBelow home a r → r ≢ Freeze (suc c)
not_ended home a c (Freeze d) le b e = let x = freezes_differ d (suc c) e in absurd (omega (arith, x, b, le))
not_ended home a c (Isolate r) le b e = absurd (isolate_is_no_freeze r (suc c) e)

-- the end of a freeze, where homes are those outside but for one that wasn't there
module _ (a : ℕ) (home after : Homes) (hs gs : List Holder) (w : World) (c : ℕ) (le : a ≤ suc c) (objects : (n : ℕ) (o : Object) → Lives w n o → ObjectFits home w (suc c) o)
    (lowers : (m : ℕ) → InRegion w m (Isolate m) → after m ≡ home_outside c (home m)) where
  same_outside : (r : Region) → RegionFits w (suc c) r → IsBelow home a r → SameHome home after r
  same_outside (Freeze d) fits b = tt
  same_outside (Isolate r) fits b = lowers r fits ∙ outside_same a c (home r) le b

  pub kept_relabelled : (to : Region) → Kept a (scene home hs w (suc c)) (scene after gs (relabelled (Freeze (suc c)) to w) c)
  kept_relabelled to = record {
    frozen = λ n o e b. (stays_by (Freeze (suc c)) to w n o (not_ended home a c o.region le b) e, same_outside o.region (objects n o e).region b);
    dead = λ n e. map_dead (moved (Freeze (suc c)) to) w n refl e;
  }

  pub kept_cleared : Kept a (scene home hs w (suc c)) (scene after gs (cleared (Freeze (suc c)) w) c)
  kept_cleared = record {
    frozen = λ n o e b. (clears n o e b, same_outside o.region (objects n o e).region b);
    dead = λ n e. map_dead (unless_of (Freeze (suc c))) w n refl e;
  }
    where
      clears : (n : ℕ) (o : Object) → Lives w n o → IsBelow home a o.region → Lives (cleared (Freeze (suc c)) w) n o
      clears n o e b = cleared_stays (Freeze (suc c)) w n o (not_ended home a c o.region le b) e

-- an isolate that isn't frozen gets another home
pub kept_homed : (a : ℕ) (home : Homes) (hs gs : List Holder) (w : World) (c n : ℕ) (h : Home) → (IsHomeBelow a (home n) → ⊥) → Kept a (scene home hs w c) (scene (homed n h home) gs w c)
kept_homed a home hs gs w c n h never = record { frozen = λ k o e b. (e, other o.region b); dead = λ k e. e }
  where
    other : (r : Region) → IsBelow home a r → SameHome home (homed n h home) r
    other (Freeze d) b = tt
    other (Isolate r) b = homed_other n h home r (λ e. never (subst (λ k. IsHomeBelow a (home k)) e b))
