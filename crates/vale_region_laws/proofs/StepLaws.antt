-- Every step keeps the invariant, and what is frozen.
use Rattle.std.specs.Prelude.{slice_get, slice_set}
use Rattle.std.proofs.Common.{◌≡◌, ◌≢◌, ◌≤◌, ◌<◌, ℕ, suc, List, [], ◌∷◌, Option, Some, None, ◌⊎◌, inl, inr, refl, sym, ap, ◌∙◌, subst, arith}
use Rattle.vale_state_spec.specs.World.{Iso, Region, Freeze, Isolate, Object, World, Lives, relabelled}
use Rattle.vale_region_laws.specs.Regions.{Home, At, Waiting, Homes, InRegion, Holder, IsHomeBelow, Scene, Fits, Kept, scene, holding, home_outside, homed}
use Rattle.vale_region_laws.specs.Steps.{Step, is_born, dies, is_set, is_pushed, is_popped, joins, opens, merges, keeps, clears, waits, arrives, is_held, IsInside, Run, here, then_, IsElsewhere, KeptWaiting, object_of_kind}
use Rattle.vale_region_laws.proofs.Ending.{died_fits, dies_inside}
use Rattle.vale_region_laws.proofs.Growing.{born_fits, swapped_fits, pushed_fits, popped_fits}
use Rattle.vale_region_laws.proofs.Keeping.{kept_same, kept_later, kept_born, kept_set, kept_joined, kept_relabelled, kept_cleared, kept_homed, stays_by}
use Rattle.vale_region_laws.proofs.Moving.{waits_fits, arrives_fits, opens_fits, held_fits, homed_other}
use Rattle.vale_region_laws.proofs.Relabelling.{joined_fits, is_at, isolates_differ}
use Rattle.vale_region_laws.proofs.Thawing.{merged_fits, kept_fits, cleared_fits, kept_lowers, isolate_is_no_freeze}
use Rattle.vale_region_laws.proofs.Worlds.{region_is, set_goes, last_keeps, cleared_stays}

pub step_fits : (s t : Scene) → Step s t → Fits s → Fits t
step_fits s t (is_born home hs w c kind vs) f = born_fits home hs w c kind vs f
step_fits s t (dies home hs w c n o e) f = died_fits home hs w c n o e f
step_fits s t (is_set home hs w c n o i old new e q g) f = swapped_fits home hs w c n o i old new e q g f
step_fits s t (is_pushed home hs w c n o new e q) f = pushed_fits home hs w c n o new e q f
step_fits s t (is_popped home hs w c n o v vs e q g) f = popped_fits home hs w c n o v vs e q g f
step_fits s t (joins home hs w c n) f = joined_fits home hs w c n f
step_fits s t (opens home hs w c) f = opens_fits home hs w c f
step_fits s t (merges home hs w c n l) f = merged_fits home hs w c n l f
step_fits s t (keeps home hs w c n l i) f = kept_fits home hs w c n l f i
step_fits s t (clears home hs w c l) f = cleared_fits home hs w c l f
step_fits s t (waits home hs w c n l) f = waits_fits home hs w c n l f
step_fits s t (arrives home hs w c n) f = arrives_fits home hs w c n f
step_fits s t (is_held home hs gs w c le fit) f = held_fits home hs gs w c le fit f

pub not_below_at : (a c : ℕ) (h : Home) → a ≤ c → h ≡ At c → IsHomeBelow a h → ⊥
not_below_at a c h le e b = let x : c < a = subst (IsHomeBelow a) e b in absurd (omega (arith, x, le))

pub step_kept : (a : ℕ) (s t : Scene) (step : Step s t) → IsInside a s t step → Fits s → Kept a s t
step_kept a s t (is_born home hs w c kind vs) le f = kept_born a home _ _ w c (object_of_kind c kind vs)
step_kept a s t (dies home hs w c n o e) le f = kept_set a home _ _ w c n o None le e (dies_inside home hs w c n o e f)
step_kept a s t (is_set home hs w c n o i old new e q g) le f = kept_set a home _ _ w c n o (Some _) le e q
step_kept a s t (is_pushed home hs w c n o new e q) le f = kept_set a home _ _ w c n o (Some _) le e q
step_kept a s t (is_popped home hs w c n o v vs e q g) le f = kept_set a home _ _ w c n o (Some _) le e q
step_kept a s t (joins home hs w c n) le f = kept_joined a home _ _ w c n le (is_at c f.holders.0.1.1 (home n) f.holders.0.1.2 f.holders.0.1.3)
step_kept a s t (opens home hs w c) le f = kept_same a home hs hs w c (suc c)
step_kept a s t (merges home hs w c n l) le f = kept_relabelled a home _ _ _ w c le f.objects (λ m h. refl) (Freeze c)
step_kept a s t (keeps home hs w c n l i) le f = kept_relabelled a home _ _ _ w c le f.objects (kept_lowers home hs w c n l f i) (Isolate n)
step_kept a s t (clears home hs w c l) le f = kept_cleared a home _ _ _ w c le f.objects (λ m h. refl)
step_kept a s t (waits home hs w c n l) le f = kept_homed a home _ _ w c n Waiting (not_below_at a c (home n) le (is_at c f.holders.0.1.1 (home n) f.holders.0.1.2 f.holders.0.1.3))
step_kept a s t (arrives home hs w c n) le f = kept_homed a home _ _ w c n (At c) (λ b. subst (IsHomeBelow a) f.holders.0.1.1 b)
step_kept a s t (is_held home hs gs w c m fit) le f = kept_same a home hs gs w c c

-- ---- runs

pub run_fits : (a : ℕ) (s t : Scene) → Run a s t → Fits s → Fits t
run_fits a s t (here u) f = f
run_fits a s t (then_ x y z step le run) f = run_fits a y z run (step_fits x y step f)

pub run_kept : (a : ℕ) (s t : Scene) → Run a s t → Fits s → Kept a s t
run_kept a s t (here u) f = kept_same a u.home u.holders u.holders u.world u.opened u.opened
run_kept a s t (then_ x y z step le run) f = kept_later a x y z (step_kept a x y step le f) (run_kept a y z run (step_fits x y step f))

-- ---- isolates that wait

at_is_not_waiting : (c : ℕ) (h : Home) → h ≡ At c → h ≡ Waiting → ⊥
at_is_not_waiting c h e g = let x : At c ≡ Waiting = sym e ∙ g in let y : ⊥ = cc in y

isolate_not : (r c : ℕ) (q : Region) → q ≡ Isolate r → q ≢ Freeze c
isolate_not r c q e g = isolate_is_no_freeze r c (sym e ∙ g)

-- one whose home is another isn't the one that waits
not_it : (home : Homes) (r n c : ℕ) → home r ≡ Waiting → home n ≡ At c → r ≢ n
not_it home r n c wait at e = at_is_not_waiting c (home n) at (sym (ap home e) ∙ wait)

waiting_set : (home : Homes) (hs gs : List Holder) (w : World) (c n r : ℕ) (o : Object) (x : Option Object) → Lives w n o → o.region ≡ Freeze c → home r ≡ Waiting
    → KeptWaiting r (scene home hs w c) (scene home gs (slice_set w n x) c)
waiting_set home hs gs w c n r o x lives inner wait = record { waits = wait; same = λ k p e q. at k p e q (set_goes w n x k (Some p) e) }
  where
    at : (k : ℕ) (p : Object) → Lives w k p → p.region ≡ Isolate r
        → ((k ≢ n) × (slice_get (slice_set w n x) k ≡ Some (Some p))) ⊎ ((k ≡ n) × (slice_get (slice_set w n x) k ≡ Some x)) → Lives (slice_set w n x) k p
    at k p e q (inl y) = y.1
    at k p e q (inr y) = absurd (isolate_not r c p.region q (region_is w n p (Freeze c) (subst (λ k. Lives w k p) y.0 e) (record { object = o; lives = lives; region = inner })))

waiting_relabelled : (home after : Homes) (hs gs : List Holder) (w : World) (c d r : ℕ) (from to : Region) → after r ≡ Waiting → Isolate r ≢ from
    → KeptWaiting r (scene home hs w c) (scene after gs (relabelled from to w) d)
waiting_relabelled home after hs gs w c d r from to wait ne = record { waits = wait; same = λ k p e q. stays_by from to w k p (λ g. ne (sym q ∙ g)) e }

waiting_homed : (home : Homes) (hs gs : List Holder) (w : World) (c n r : ℕ) (h : Home) → home r ≡ Waiting → r ≢ n → KeptWaiting r (scene home hs w c) (scene (homed n h home) gs w c)
waiting_homed home hs gs w c n r h wait ne = record { waits = homed_other n h home r ne ∙ wait; same = λ k p e q. e }

waiting_same : (home : Homes) (hs gs : List Holder) (w : World) (c d r : ℕ) → home r ≡ Waiting → KeptWaiting r (scene home hs w c) (scene home gs w d)
waiting_same home hs gs w c d r wait = record { waits = wait; same = λ k p e q. e }

pub home_of_held : (home : Homes) (hs : List Holder) (w : World) (c n : ℕ) → Fits (scene home (holding c (Iso n) ∷ hs) w c) → home n ≡ At c
home_of_held home hs w c n f = is_at c f.holders.0.1.1 (home n) f.holders.0.1.2 f.holders.0.1.3

-- No step but its arrival touches an isolate that waits.
pub step_waiting : (r : ℕ) (s t : Scene) (step : Step s t) → IsElsewhere r s t step → s.home r ≡ Waiting → InRegion s.world r (Isolate r) → Fits s → KeptWaiting r s t
step_waiting r s t (is_born home hs w c kind vs) u wait root f = record { waits = wait; same = λ k p e q. last_keeps w (Some (object_of_kind c kind vs)) k (Some p) e }
step_waiting r s t (dies home hs w c n o e) u wait root f = waiting_set home _ _ w c n r o None e (dies_inside home hs w c n o e f) wait
step_waiting r s t (is_set home hs w c n o i old new e q g) u wait root f = waiting_set home _ _ w c n r o (Some _) e q wait
step_waiting r s t (is_pushed home hs w c n o new e q) u wait root f = waiting_set home _ _ w c n r o (Some _) e q wait
step_waiting r s t (is_popped home hs w c n o v vs e q g) u wait root f = waiting_set home _ _ w c n r o (Some _) e q wait
step_waiting r s t (joins home hs w c n) u wait root f =
    waiting_relabelled home home _ _ w c c r (Isolate n) (Freeze c) wait (λ e. not_it home r n c wait (home_of_held home hs w c n f) (isolates_differ r n e))
step_waiting r s t (opens home hs w c) u wait root f = waiting_same home hs hs w c (suc c) r wait
step_waiting r s t (merges home hs w c n l) u wait root f = waiting_relabelled home _ _ _ w (suc c) c r (Freeze (suc c)) (Freeze c) (ap (home_outside c) wait) (isolate_is_no_freeze r (suc c))
step_waiting r s t (keeps home hs w c n l i) u wait root f =
    waiting_relabelled home _ _ _ w (suc c) c r (Freeze (suc c)) (Isolate n) (kept_lowers home hs w c n l f i r root ∙ ap (home_outside c) wait) (isolate_is_no_freeze r (suc c))
step_waiting r s t (clears home hs w c l) u wait root f = record {
  waits = ap (home_outside c) wait;
  same = λ k p e q. cleared_stays (Freeze (suc c)) w k p (isolate_not r (suc c) p.region q) e;
}
step_waiting r s t (waits home hs w c n l) u wait root f = waiting_homed home _ _ w c n r Waiting wait (not_it home r n c wait (home_of_held home hs w c n f))
step_waiting r s t (arrives home hs w c n) u wait root f = waiting_homed home _ _ w c n r (At c) wait (λ e. u (sym e))
step_waiting r s t (is_held home hs gs w c m fit) u wait root f = waiting_same home hs gs w c c r wait

-- ---- the start

pub begins_fit : Fits (scene (λ n. At 0) [] [] 0)
begins_fit = record { once = λ n. omega arith; holders = tt; objects = λ n o e. let y : ⊥ = cc in absurd y }
