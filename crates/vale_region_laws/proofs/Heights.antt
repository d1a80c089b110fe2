-- No isolate stands in a region that is kept as one.
use Rattle.std.proofs.Common.{◌≡◌, ◌≤◌, ℕ, zero, suc, ◌+◌, List, [], ◌∷◌, Some, None, ◌⊎◌, inl, inr, refl, sym, ap, ◌∙◌, subst, arith}
use Rattle.std.specs.Prelude.{slice_get}
use Rattle.vale_state_spec.specs.World.{Value, Int, Truth, Text, Own, Ref, Iso, Freeze, Isolate, Object, World, Lives}
use Rattle.vale_base.specs.declared.name.Kind.{Kind}
use Rattle.vale_region_laws.specs.Heights.{Full, IsLower, Stacked}
use Rattle.vale_region_laws.specs.Owned.{same, own, in_values, in_world}
use Rattle.vale_region_laws.specs.Regions.{Each, Homes, InRegion, Within, Holder, Fits, scene, holding, Leaves, IsNoIso, HoldsNoIso}
use Rattle.vale_region_laws.proofs.Moving.{held_fits}
use Rattle.vale_region_laws.proofs.Thawing.{not_held, isolate_is_no_freeze}
use Rattle.vale_region_laws.proofs.Worlds.{one_region}

same_is : (n m : ℕ) → 1 ≤ same n m → m ≡ n
same_is zero zero le = refl
same_is zero (suc m) le = absurd (omega (arith, le))
same_is (suc n) zero le = absurd (omega (arith, le))
same_is (suc n) (suc m) le = ap suc (same_is n m le)

-- something that owns a name
some_object : (n : ℕ) (w : World) → 1 ≤ in_world n w → (k : ℕ) × (o : Object) × Lives w k o × (1 ≤ in_values n o.values)
some_object n [] le = absurd (omega (arith, le))
some_object n (None ∷ w) le = let r = some_object n w (omega (arith, le)) in (suc r.0, r.1, r.2, r.3)
some_object n (Some o ∷ w) le = at (in_values n o.values) refl (some_object n w)
  where
    at : (k : ℕ) → in_values n o.values ≡ k → (1 ≤ in_world n w → (k : ℕ) × (o : Object) × Lives w k o × (1 ≤ in_values n o.values)) → (k : ℕ) × (p : Object) × Lives (Some o ∷ w) k p × (1 ≤ in_values n p.values)
    at zero e more = let r = more (omega (arith, le, e)) in (suc r.0, r.1, r.2, r.3)
    at (suc k) e more = (0, o, refl, omega (arith, e))

some_value : (P Q : Value → Type 0) (n : ℕ) (vs : List Value) → Each P vs → Each Q vs → 1 ≤ in_values n vs → (v : Value) × P v × Q v × (1 ≤ own n v)
some_value P Q n [] p q le = absurd (omega (arith, le))
some_value P Q n (v ∷ vs) p q le = at (own n v) refl (some_value P Q n vs p.1 q.1)
  where
    at : (k : ℕ) → own n v ≡ k → (1 ≤ in_values n vs → (v : Value) × P v × Q v × (1 ≤ own n v)) → (v : Value) × P v × Q v × (1 ≤ own n v)
    at zero e more = more (omega (arith, le, e))
    at (suc k) e more = (v, p.0, q.0, omega (arith, e))

module _ (height : Kind → ℕ) (most : ℕ) (home : Homes) (hs : List Holder) (w : World) (c n : ℕ) (o : Object) (lives : Lives w n o) (plain : height o.kind ≡ 0) (leave : Each (Leaves c) hs)
    (f : Fits (scene home (holding (suc c) (Own n) ∷ hs) w (suc c))) (full : Full (scene home (holding (suc c) (Own n) ∷ hs) w (suc c))) (stacked : Stacked height most (scene home (holding (suc c) (Own n) ∷ hs) w (suc c))) where
  rest_fits : Fits (scene home hs w (suc c))
  rest_fits = held_fits home (holding (suc c) (Own n) ∷ hs) hs w (suc c) (λ k. omega arith) f.holders.1 f

  -- an owner in the same region, of one more height
  owner_above : (k : ℕ) (p : Object) → Lives w k p → p.region ≡ Freeze (suc c) → 1 ≤ height p.kind → (j : ℕ) × (q : Object) × Lives w j q × (q.region ≡ Freeze (suc c)) × (height q.kind ≡ suc (height p.kind))
  owner_above k p e inner tall = let r = at y.0 y.1 y.2 y.3 in (x.0, x.1, x.2, r.0, r.1)
    where
      here : InRegion w k (Freeze (suc c))
      here = record { object = p; lives = e; region = inner }

      same_object : (m : ℕ) → m ≡ k → Lives w m o → p ≡ o
      same_object m s g = let a : slice_get w k ≡ Some (Some o) = subst (λ k. Lives w k o) s g in let b : Some (Some p) ≡ Some (Some o) = sym e ∙ a in let d : p ≡ o = cc in d

      not_the_operand : same k n ≡ 0
      not_the_operand = from (same k n) refl
        where
          from : (i : ℕ) → same k n ≡ i → i ≡ 0
          from zero s = refl
          from (suc i) s =
              let is : n ≡ k = same_is k n (omega (arith, s)) in
              let low : height p.kind ≡ 0 = ap (λ x. height x.kind) (same_object n is lives) ∙ plain in absurd (omega (arith, low, tall))

      in_some : 1 ≤ in_world k w
      in_some =
          let a = full.found k p e (λ g. let z = stacked.roots k p e g in absurd (omega (arith, z, tall))) in
          let b = not_held home hs w c leave rest_fits k here hs rest_fits.holders leave in
          let d = not_the_operand in omega (arith, a, b, d)

      x : (j : ℕ) × (q : Object) × Lives w j q × (1 ≤ in_values k q.values)
      x = some_object k w in_some

      y : (v : Value) × Within home w x.1.region v × IsLower height w x.1.kind v × (1 ≤ own k v)
      y = some_value _ _ k x.1.values (f.objects x.0 x.1 x.2).cells (stacked.owned x.0 x.1 x.2) x.3

      at : (v : Value) → Within home w x.1.region v → IsLower height w x.1.kind v → 1 ≤ own k v → (x.1.region ≡ Freeze (suc c)) × (height x.1.kind ≡ suc (height p.kind))
      at (Own m) i l le =
          let is : m ≡ k = same_is k m le in
          (one_region w k x.1.region (Freeze (suc c)) (subst (λ k. InRegion w k x.1.region) is i) here, l p (subst (λ k. Lives w k p) (sym is) e) tall)
      at (Iso m) i l le =
          let is : m ≡ k = same_is k m le in
          absurd (isolate_is_no_freeze m (suc c) (one_region w k (Isolate m) (Freeze (suc c)) (subst (λ k. InRegion w k (Isolate m)) is i.0) here))
      at (Ref m) i l le = absurd (omega (arith, le))
      at (Int z) i l le = absurd (omega (arith, le))
      at (Truth b) i l le = absurd (omega (arith, le))
      at (Text t) i l le = absurd (omega (arith, le))

  none_tall : (fuel k : ℕ) (p : Object) → Lives w k p → p.region ≡ Freeze (suc c) → 1 ≤ height p.kind → most ≤ fuel + height p.kind → ⊥
  none_tall zero k p e inner tall le =
      let q = owner_above k p e inner tall in let a = stacked.bounded q.1.kind in let b = q.4 in absurd (omega (arith, a, b, le))
  none_tall (suc fuel) k p e inner tall le =
      let q = owner_above k p e inner tall in
      none_tall fuel q.0 q.1 q.2 q.3 (let b = q.4 in omega (arith, b)) (let b = q.4 in omega (arith, b, le))

  -- what the step `keeps` asks of the world
  pub holds_no_iso : HoldsNoIso w (Freeze (suc c))
  holds_no_iso k p e inner = at (stacked.cells k p e)
    where
      at : Each IsNoIso p.values ⊎ (1 ≤ height p.kind) → Each IsNoIso p.values
      at (inl x) = x
      at (inr tall) = absurd (none_tall most k p e inner tall (omega arith))
