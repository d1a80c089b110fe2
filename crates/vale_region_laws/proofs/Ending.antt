-- Deaths: an owner's object dies, and its values are held where the owner was.
use Rattle.std.proofs.Common.{◌≡◌, ◌≢◌, ◌≤◌, ℕ, ◌+◌, List, ◌∷◌, None, ◌⊎◌, inl, inr, sym, subst, arith}
use Rattle.vale_state_spec.specs.World.{Value, Own, Region, Freeze, Isolate, Object, World, Lives, IsDead, died}
use Rattle.vale_region_laws.specs.Owned.{same, own, in_world}
use Rattle.vale_region_laws.specs.Regions.{Each, Homes, InRegion, Within, Below, Sees, Holder, HolderFits, RegionFits, ObjectFits, held, Fits, scene, holding, holding_all}
use Rattle.vale_region_laws.proofs.Counts.{same_self, not_same, at_most_one, in_one, world_set, alive_died, held_all, each_value, each_holder}
use Rattle.vale_region_laws.proofs.Growing.{to_below, in_below, within_by, sees_by, awaits_by, how_by, join_all}
use Rattle.vale_region_laws.proofs.Worlds.{one_region, region_is, set_dead, died_in, died_either, died_is}

freeze_is_no_isolate : (a b : ℕ) → Freeze a ≡ Isolate b → ⊥
freeze_is_no_isolate a b e = cc

module _ (home : Homes) (hs : List Holder) (w : World) (c n : ℕ) (o : Object) (lives : Lives w n o) (f : Fits (scene home (holding c (Own n) ∷ hs) w c)) where
  there : InRegion w n (Freeze c)
  there = f.holders.0.1

  -- what dies lies in the innermost region
  pub dies_inside : o.region ≡ Freeze c
  dies_inside = region_is w n o (Freeze c) lives there

  -- and is the root of no isolate: no object lies in an isolate of that name
  pub ends_no_root : (k : ℕ) (p : Object) → Lives w k p → p.region ≢ Isolate n
  ends_no_root k p e q =
      let root : InRegion w n (Isolate n) = subst (RegionFits w c) q (f.objects k p e).region in
      absurd (freeze_is_no_isolate c n (one_region w n (Freeze c) (Isolate n) there root))

  -- nothing else owns it
  pub owned_nowhere : held n hs + in_world n w ≤ 0
  owned_nowhere = let a = f.once n in let b = same_self n in let d = at_most_one n w in omega (arith, a, b, d)

  within_died : (r : Region) (v : Value) → own n v ≤ 0 → Within home w r v → Within home (died w n) r v
  within_died r v none h = within_by home home w (died w n) r r v
      (λ m e x. died_in w n m r (other m (subst (λ v. own n v ≤ 0) e none)) x)
      at
      (λ m e x d y z. (died_in w n m (Isolate m) (other m (subst (λ v. own n v ≤ 0) e none)) x, d, y, z)) h
    where
      other : (m : ℕ) → same n m ≤ 0 → m ≢ n
      other m le = not_same n m (omega (arith, le))

      at : (m : ℕ) → IsDead w m ⊎ InRegion w m r → IsDead (died w n) m ⊎ InRegion (died w n) m r
      at m (inl d) = inl (set_dead w n o None m lives d)
      at m (inr x) = died_either w n m r x

  sees_died : (a : ℕ) (v : Value) → Sees home w a v → Sees home (died w n) a v
  sees_died a v h = sees_by home home w (died w n) a a v (λ m d. set_dead w n o None m lives d) (λ m b. at m b (died_either w n m b.object.region (in_below home w a m b))) h
    where
      at : (m : ℕ) (b : Below home w a m) → IsDead (died w n) m ⊎ InRegion (died w n) m b.object.region → IsDead (died w n) m ⊎ Below home (died w n) a m
      at m b (inl d) = inl d
      at m b (inr x) = inr (to_below home (died w n) a m b.object.region x b.below)

  holder_died : (h : Holder) → own n h.value ≤ 0 → HolderFits home w c h → HolderFits home (died w n) c h
  holder_died h none x = (
    x.0,
    how_by home home w (died w n) c h.how h.value (λ a le. within_died (Freeze a) h.value none) (λ a le. sees_died a h.value)
        (awaits_by home home w (died w n) h.value (λ m e y z. (died_in w n m (Isolate m) (not_same n m (let l = subst (λ v. own n v ≤ 0) e none in omega (arith, l))) y, z))) x.0 x.1,
  )

  region_died : (r : Region) → RegionFits w c r → RegionFits (died w n) c r
  region_died (Freeze d) h = h
  region_died (Isolate r) h = died_in w n r (Isolate r) (λ e. absurd (freeze_is_no_isolate c r (one_region w r (Freeze c) (Isolate r) (subst (λ k. InRegion w k (Freeze c)) (sym e) there) h))) h

  object_died : (k : ℕ) (p : Object) → Lives w k p → ObjectFits home (died w n) c p
  object_died k p e = record {
    region = region_died p.region (f.objects k p e).region;
    cells = each_value _ _ n 0 p.values (let a = in_one n w k p e in let b = owned_nowhere in omega (arith, a, b)) (within_died p.region) (f.objects k p e).cells;
  }

  -- it dies: its values are held at the same depth
  pub died_fits : Fits (scene home (holding_all c o.values hs) (died w n) c)
  died_fits = record {
    once = λ k.
        let a = f.once k in let b = held_all k c o.values hs in let d = world_set k w n o None lives in let e = alive_died k w n o lives in
        omega (arith, a, b, d, e);
    holders = join_all home (died w n) c c o.values hs (omega arith)
        (each_value _ _ n 0 o.values (let a = in_one n w n o lives in let b = owned_nowhere in omega (arith, a, b)) (within_died (Freeze c)) values)
        (each_holder _ _ n 0 hs (let b = owned_nowhere in omega (arith, b)) holder_died f.holders.1);
    objects = λ k p e. let x = died_is w n k p e in object_died k p x.1;
  }
    where
      values : Each (Within home w (Freeze c)) o.values
      values = subst (λ r. Each (Within home w r) o.values) dies_inside (f.objects n o lives).cells
