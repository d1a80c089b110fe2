-- What becomes of names: each change of a world gives new names only at its end, and lets none come to life again.
use Rattle.std.proofs.Common.{◌≡◌, inl, inr, ℕ, zero, suc, [], ◌∷◌, Option, Some, None, Bool, true, false, refl, sym, ◌∙◌, subst}
use Rattle.std.specs.Prelude.{slice_get, if◌then◌else◌}
use Rattle.vale_state_spec.specs.World.{World, Object, Region, region_eq, moved, relabelled, unless_of, cleared}
use Rattle.vale_state_spec.specs.World as w
use Rattle.vale_text.specs.Progress.{NameProgresses}

pub same_later : (x : Option (Option Object)) → NameProgresses x x
same_later None = tt
same_later (Some None) = refl
same_later (Some (Some o)) = inr (o, refl, refl)

dead_stays : (y z : Option (Option Object)) → y ≡ Some None → NameProgresses y z → z ≡ Some None
dead_stays None z e b = absurd (cc)
dead_stays (Some None) z e b = b
dead_stays (Some (Some p)) z e b = absurd (cc)

lives_later : (o p : Object) (z : Option (Option Object)) → p.kind ≡ o.kind → NameProgresses (Some (Some p)) z → NameProgresses (Some (Some o)) z
lives_later o p z same (inl dead) = inl dead
lives_later o p z same (inr q) = inr (q.0, q.1, q.2 ∙ same)

pub later_later : (x y z : Option (Option Object)) → NameProgresses x y → NameProgresses y z → NameProgresses x z
later_later None y z a b = tt
later_later (Some None) y z a b = dead_stays y z a b
later_later (Some (Some o)) y z (inl e) b = inl (dead_stays y z e b)
later_later (Some (Some o)) y z (inr p) b = lives_later o p.0 z p.2 (subst (λ y. NameProgresses y z) p.1 b)

pub born_later : (world : World) (o : Object) (n : ℕ) → NameProgresses (slice_get world n) (slice_get (w.born world o) n)
born_later [] o n = tt
born_later (x ∷ world) o zero = same_later (Some x)
born_later (x ∷ world) o (suc n) = born_later world o n

dead_later : (x : Option Object) → NameProgresses (Some x) (Some None)
dead_later None = refl
dead_later (Some o) = inl refl

pub died_later : (world : World) (k n : ℕ) → NameProgresses (slice_get world n) (slice_get (w.died world k) n)
died_later [] k n = tt
died_later (x ∷ world) zero zero = dead_later x
died_later (x ∷ world) zero (suc n) = same_later (slice_get world n)
died_later (x ∷ world) (suc k) zero = same_later (Some x)
died_later (x ∷ world) (suc k) (suc n) = died_later world k n

pub written_later : (world : World) (k n : ℕ) (o p : Object) → slice_get world k ≡ Some (Some o) → p.kind ≡ o.kind → NameProgresses (slice_get world n) (slice_get (w.written world k p) n)
written_later [] k n o p e same = tt
written_later (x ∷ world) zero zero o p e same = subst (λ y. NameProgresses y (Some (Some p))) (sym e) (inr (p, refl, same))
written_later (x ∷ world) zero (suc n) o p e same = same_later (slice_get world n)
written_later (x ∷ world) (suc k) zero o p e same = same_later (Some x)
written_later (x ∷ world) (suc k) (suc n) o p e same = written_later world k n o p e same

pub relabelled_later : (from to : Region) (world : World) (n : ℕ) → NameProgresses (slice_get world n) (slice_get (relabelled from to world) n)
relabelled_later from to [] n = tt
relabelled_later from to (None ∷ world) zero = refl
relabelled_later from to (Some o ∷ world) zero = inr (record o { region = if region_eq o.region from then to else o.region }, refl, refl)
relabelled_later from to (x ∷ world) (suc n) = relabelled_later from to world n

pub cleared_later : (region : Region) (world : World) (n : ℕ) → NameProgresses (slice_get world n) (slice_get (cleared region world) n)
cleared_later region [] n = tt
cleared_later region (None ∷ world) zero = refl
cleared_later region (Some o ∷ world) zero = by (region_eq o.region region)
  where
    by : (b : Bool) → NameProgresses (Some (Some o)) (Some (if b then None else Some o))
    by true = inl refl
    by false = inr (o, refl, refl)
cleared_later region (x ∷ world) (suc n) = cleared_later region world n
