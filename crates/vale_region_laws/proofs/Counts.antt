-- How often names are owned after a step on a world.
use Rattle.std.proofs.Common.{◌≡◌, ◌≢◌, ◌≤◌, ℕ, zero, suc, ◌+◌, List, [], ◌∷◌, ◌++◌, length, Option, Some, None, Bool, true, false, if◌then◌else◌, refl, sym, ap, subst, arith}
use Rattle.std.specs.Prelude.{slice_get, slice_set}
use Rattle.vale_state_spec.specs.State.{living, front_from, last_from}
use Rattle.vale_state_spec.specs.World.{Value, Region, Object, World, Lives, born, died, written, region_eq, relabelled, cleared}
use Rattle.vale_region_laws.specs.Owned.{same, own, in_values, in_object, in_world, one_if, alive}
use Rattle.vale_region_laws.specs.Regions.{Each, Holder, held, holding_all}

pub same_self : (n : ℕ) → same n n ≡ 1
same_self zero = refl
same_self (suc n) = same_self n

pub not_same : (n m : ℕ) → same n m ≡ 0 → m ≢ n
not_same n m e q = let x : same n n ≡ 0 = subst (λ k. same n k ≡ 0) q e in let y = same_self n in absurd (omega (arith, x, y))

pub values_set : (n : ℕ) (vs : List Value) (i : ℕ) (old new : Value) → slice_get vs i ≡ Some old → in_values n (slice_set vs i new) + own n old ≡ in_values n vs + own n new
values_set n [] i old new e = let x : ⊥ = cc in absurd x
values_set n (v ∷ vs) zero old new e = let same_value : v ≡ old = cc in let x = ap (λ v. own n v) same_value in omega (arith, x)
values_set n (v ∷ vs) (suc i) old new e = let x = values_set n vs i old new e in omega (arith, x)

pub values_append : (n : ℕ) (vs : List Value) (v : Value) → in_values n (vs ++ v ∷ []) ≡ in_values n vs + own n v
values_append n [] v = omega arith
values_append n (u ∷ vs) v = let x = values_append n vs v in omega (arith, x)

pub front_owns : (n : ℕ) (v : Value) (vs : List Value) → in_values n (front_from v vs) + own n (last_from v vs) ≡ own n v + in_values n vs
front_owns n v [] = omega arith
front_owns n v (u ∷ us) = let x = front_owns n u us in omega (arith, x)

-- ---- worlds

one_at : Option (Option Object) → ℕ
one_at x = one_if (living x)

pub lives_alive : (n : ℕ) (w : World) (o : Object) → Lives w n o → alive n w ≡ 1
lives_alive n w o e = ap (λ x. one_if (living x)) e

pub at_most_one : (n : ℕ) (w : World) → alive n w ≤ 1
at_most_one n w = from (living (slice_get w n))
  where
    from : (x : Option Object) → one_if x ≤ 1
    from None = omega arith
    from (Some o) = omega arith

pub in_one : (n : ℕ) (w : World) (k : ℕ) (o : Object) → Lives w k o → in_values n o.values ≤ in_world n w
in_one n [] k o e = let y : ⊥ = cc in absurd y
in_one n (x ∷ w) zero o e = let q : x ≡ Some o = cc in let y = ap (in_object n) q in omega (arith, y)
in_one n (x ∷ w) (suc k) o e = let y = in_one n w k o e in omega (arith, y)

pub world_set : (n : ℕ) (w : World) (m : ℕ) (p : Object) (x : Option Object) → Lives w m p → in_world n (slice_set w m x) + in_values n p.values ≡ in_world n w + in_object n x
world_set n [] m p x e = let y : ⊥ = cc in absurd y
world_set n (a ∷ w) zero p x e = let q : a ≡ Some p = cc in let y = ap (in_object n) q in omega (arith, y)
world_set n (a ∷ w) (suc m) p x e = let y = world_set n w m p x e in omega (arith, y)

pub world_born : (n : ℕ) (w : World) (o : Object) → in_world n (born w o) ≡ in_world n w + in_values n o.values
world_born n [] o = omega arith
world_born n (x ∷ w) o = let y = world_born n w o in omega (arith, y)

pub alive_born : (n : ℕ) (w : World) (o : Object) → alive n (born w o) ≡ alive n w + same n (length w)
alive_born zero [] o = refl
alive_born (suc n) [] o = refl
alive_born zero (x ∷ w) o = omega arith
alive_born (suc n) (x ∷ w) o = alive_born n w o

pub alive_died : (n : ℕ) (w : World) (m : ℕ) (p : Object) → Lives w m p → alive n (died w m) + same n m ≡ alive n w
alive_died n [] m p e = let y : ⊥ = cc in absurd y
alive_died zero (x ∷ w) zero p e = let y = ap (λ x. one_if (living x)) e in omega (arith, y)
alive_died zero (x ∷ w) (suc m) p e = omega arith
alive_died (suc n) (x ∷ w) zero p e = omega arith
alive_died (suc n) (x ∷ w) (suc m) p e = alive_died n w m p e

pub alive_written : (n : ℕ) (w : World) (m : ℕ) (p o : Object) → Lives w m p → alive n (written w m o) ≡ alive n w
alive_written n [] m p o e = refl
alive_written zero (x ∷ w) zero p o e = sym (ap (λ x. one_if (living x)) e)
alive_written zero (x ∷ w) (suc m) p o e = refl
alive_written (suc n) (x ∷ w) zero p o e = refl
alive_written (suc n) (x ∷ w) (suc m) p o e = alive_written n w m p o e

pub world_relabelled : (n : ℕ) (w : World) (from to : Region) → in_world n (relabelled from to w) ≡ in_world n w
world_relabelled n [] from to = refl
world_relabelled n (None ∷ w) from to = let x = world_relabelled n w from to in omega (arith, x)
world_relabelled n (Some o ∷ w) from to = let x = world_relabelled n w from to in omega (arith, x)

pub alive_relabelled : (n : ℕ) (w : World) (from to : Region) → alive n (relabelled from to w) ≡ alive n w
alive_relabelled n [] from to = refl
alive_relabelled zero (None ∷ w) from to = refl
alive_relabelled zero (Some o ∷ w) from to = refl
alive_relabelled (suc n) (x ∷ w) from to = alive_relabelled n w from to

pub world_cleared : (n : ℕ) (w : World) (r : Region) → in_world n (cleared r w) ≤ in_world n w
world_cleared n [] r = omega arith
world_cleared n (None ∷ w) r = let x = world_cleared n w r in omega (arith, x)
world_cleared n (Some o ∷ w) r = from (region_eq o.region r) (world_cleared n w r)
  where
    from : (b : Bool) → in_world n (cleared r w) ≤ in_world n w → in_object n (if b then None else Some o) + in_world n (cleared r w) ≤ in_values n o.values + in_world n w
    from true x = omega (arith, x)
    from false x = omega (arith, x)

pub nothing_owned : (n : ℕ) (w : World) → ((k : ℕ) (o : Object) → Lives w k o → in_values n o.values ≡ 0) → in_world n w ≡ 0
nothing_owned n [] h = refl
nothing_owned n (None ∷ w) h = let x = nothing_owned n w (λ k. h (suc k)) in omega (arith, x)
nothing_owned n (Some o ∷ w) h = let x = nothing_owned n w (λ k. h (suc k)) in let y = h zero o refl in omega (arith, x, y)

-- ---- holders

pub held_all : (n a : ℕ) (vs : List Value) (hs : List Holder) → held n (holding_all a vs hs) ≡ in_values n vs + held n hs
held_all n a [] hs = omega arith
held_all n a (v ∷ vs) hs = let x = held_all n a vs hs in omega (arith, x)

-- ---- each of a list

pub each_map : {A : Type 0} (P Q : A → Type 0) (xs : List A) → ((x : A) → P x → Q x) → Each P xs → Each Q xs
each_map P Q [] f h = tt
each_map P Q (x ∷ xs) f h = (f x h.0, each_map P Q xs f h.1)

-- where a name is owned at most so often
pub each_value : (P Q : Value → Type 0) (n b : ℕ) (vs : List Value) → in_values n vs ≤ b → ((v : Value) → own n v ≤ b → P v → Q v) → Each P vs → Each Q vs
each_value P Q n b [] le f h = tt
each_value P Q n b (v ∷ vs) le f h = (f v (omega (arith, le)) h.0, each_value P Q n b vs (omega (arith, le)) f h.1)

pub each_holder : (P Q : Holder → Type 0) (n b : ℕ) (hs : List Holder) → held n hs ≤ b → ((h : Holder) → own n h.value ≤ b → P h → Q h) → Each P hs → Each Q hs
each_holder P Q n b [] le f h = tt
each_holder P Q n b (v ∷ vs) le f h = (f v (omega (arith, le)) h.0, each_holder P Q n b vs (omega (arith, le)) f h.1)

pub each_none : (P : Value → Type 0) (n : ℕ) (vs : List Value) → ((v : Value) → P v → own n v ≡ 0) → Each P vs → in_values n vs ≡ 0
each_none P n [] f h = refl
each_none P n (v ∷ vs) f h = let x = f v h.0 in let y = each_none P n vs f h.1 in omega (arith, x, y)

pub held_none : (P : Holder → Type 0) (n : ℕ) (hs : List Holder) → ((h : Holder) → P h → own n h.value ≡ 0) → Each P hs → held n hs ≡ 0
held_none P n [] f h = refl
held_none P n (v ∷ vs) f h = let x = f v h.0 in let y = held_none P n vs f h.1 in omega (arith, x, y)

pub each_at : (P : Value → Type 0) (vs : List Value) (i : ℕ) (v : Value) → slice_get vs i ≡ Some v → Each P vs → P v
each_at P [] i v e h = let x : ⊥ = cc in absurd x
each_at P (u ∷ vs) zero v e h = let q : u ≡ v = cc in subst P q h.0
each_at P (u ∷ vs) (suc i) v e h = each_at P vs i v e h.1

pub each_set : (P : Value → Type 0) (vs : List Value) (i : ℕ) (new : Value) → P new → Each P vs → Each P (slice_set vs i new)
each_set P [] i new g h = tt
each_set P (u ∷ vs) zero new g h = (g, h.1)
each_set P (u ∷ vs) (suc i) new g h = (h.0, each_set P vs i new g h.1)

pub each_append : (P : Value → Type 0) (vs : List Value) (new : Value) → P new → Each P vs → Each P (vs ++ new ∷ [])
each_append P [] new g h = (g, tt)
each_append P (u ∷ vs) new g h = (h.0, each_append P vs new g h.1)

pub each_front : (P : Value → Type 0) (v : Value) (vs : List Value) → P v → Each P vs → Each P (front_from v vs) × P (last_from v vs)
each_front P v [] h g = (tt, h)
each_front P v (u ∷ us) h g = let r = each_front P u us g.0 g.1 in ((h, r.0), r.1)
