-- What runs of several steps come to: the call of a pure function, the begin of a loop over isolates, and its iterations.
use Rattle.std.proofs.Common.{◌≡◌, ◌≤◌, ℕ, suc, ◌+◌, min, List, [], ◌∷◌, inl, refl, ap, ap₂, ◌∙◌, subst, arith}
use Rattle.vale_state_spec.specs.State.{lent}
use Rattle.vale_state_spec.specs.World.{Value, Int, Truth, Text, Own, Ref, Iso, Freeze, Object, World, Lives, died}
use Rattle.vale_region_laws.specs.Asks.{IsMoved}
use Rattle.vale_region_laws.specs.Holding.{waiting_all, seeing_all}
use Rattle.vale_region_laws.specs.Owned.{own, in_values}
use Rattle.vale_region_laws.specs.Regions.{Each, At, Waiting, Homes, Within, IsHomeBelow, Sees, Holder, HolderFits, held, Fits, Kept, scene, holding, seeing, waiting, holding_all, homed, NoDeeper, lower_all, Leaves}
use Rattle.vale_region_laws.proofs.Counts.{held_all}
use Rattle.vale_region_laws.proofs.Ending.{died_fits}
use Rattle.vale_region_laws.proofs.Keeping.{kept_same, kept_later, kept_homed}
use Rattle.vale_region_laws.proofs.Moving.{waits_fits, arrives_fits, opens_fits, held_fits, lent_seen, deeper_seen}
use Rattle.vale_region_laws.proofs.StepLaws.{home_of_held, not_below_at}

-- ---- isolates wait, one after another

-- the scene after it: the same but for the homes, which are others for isolates at home at this depth alone
pub record Waiting_ (home : Homes) (gs hs : List Holder) (w : World) (c : ℕ) : Type 0 where
  pub home_after : Homes
  pub fits : Fits (scene home_after hs w c)
  pub kept : Kept c (scene home gs w c) (scene home_after hs w c)

-- one holder goes to the end of those that wait
swap_first : (home : Homes) (g h : Holder) (hs : List Holder) (w : World) (c : ℕ) → Fits (scene home (g ∷ h ∷ hs) w c) → Fits (scene home (h ∷ g ∷ hs) w c)
swap_first home g h hs w c f = held_fits home (g ∷ h ∷ hs) (h ∷ g ∷ hs) w c (λ n. omega arith) (f.holders.1.0, (f.holders.0, f.holders.1.1)) f

pub one_waits : (home : Homes) (v : Value) (hs : List Holder) (w : World) (c : ℕ) → IsMoved v → Each (NoDeeper c) hs → Fits (scene home (holding c v ∷ hs) w c)
    → Waiting_ home (holding c v ∷ hs) (waiting v ∷ hs) w c
one_waits home (Own n) hs w c m low f = absurd m
one_waits home (Ref n) hs w c m low f = absurd m
one_waits home (Iso n) hs w c m low f = record {
  home_after = homed n Waiting home;
  fits = waits_fits home hs w c n low f;
  kept = kept_homed c home _ _ w c n Waiting (not_below_at c c (home n) (omega arith) (home_of_held home hs w c n f));
}
one_waits home (Int z) hs w c m low f = record { home_after = home; fits = held_fits home _ _ w c (λ n. omega arith) ((tt, tt), f.holders.1) f; kept = kept_same c home _ _ w c c }
one_waits home (Truth z) hs w c m low f = record { home_after = home; fits = held_fits home _ _ w c (λ n. omega arith) ((tt, tt), f.holders.1) f; kept = kept_same c home _ _ w c c }
one_waits home (Text z) hs w c m low f = record { home_after = home; fits = held_fits home _ _ w c (λ n. omega arith) ((tt, tt), f.holders.1) f; kept = kept_same c home _ _ w c c }

each_behind : (P : Holder → Type 0) (c : ℕ) (h : Holder) (vs : List Value) (hs : List Holder) → P h → Each P (holding_all c vs hs) → Each P (holding_all c vs (h ∷ hs))
each_behind P c h [] hs x y = (x, y)
each_behind P c h (v ∷ vs) hs x y = (y.0, each_behind P c h vs hs x y.1)

pub waiting_held : (n : ℕ) (vs : List Value) (hs : List Holder) → held n (waiting_all vs hs) ≡ in_values n vs + held n hs
waiting_held n [] hs = omega arith
waiting_held n (v ∷ vs) hs = let x = waiting_held n vs hs in omega (arith, x)

each_before : (P : Holder → Type 0) (h : Holder) (vs : List Value) (hs : List Holder) → Each P (waiting_all vs (h ∷ hs)) → P h × Each P (waiting_all vs hs)
each_before P h [] hs x = x
each_before P h (v ∷ vs) hs x = let r = each_before P h vs hs x.1 in (r.0, (x.0, r.1))

pub none_deeper : (c a : ℕ) (vs : List Value) (hs : List Holder) → Each (NoDeeper c) hs → Each (NoDeeper c) (holding_all a vs hs)
none_deeper c a [] hs x = x
none_deeper c a (v ∷ vs) hs x = (tt, none_deeper c a vs hs x)

then_more : (home : Homes) (v : Value) (vs : List Value) (hs : List Holder) (w : World) (c : ℕ) (one : Waiting_ home (holding c v ∷ holding_all c vs hs) (waiting v ∷ holding_all c vs hs) w c)
    → Waiting_ one.home_after (holding_all c vs (waiting v ∷ hs)) (waiting_all vs (waiting v ∷ hs)) w c → Waiting_ home (holding c v ∷ holding_all c vs hs) (waiting v ∷ waiting_all vs hs) w c
then_more home v vs hs w c one more = record {
  home_after = more.home_after;
  fits = held_fits more.home_after _ _ w c (λ n. let x = waiting_held n vs (waiting v ∷ hs) in let y = waiting_held n vs hs in omega (arith, x, y)) (each_before _ (waiting v) vs hs more.fits.holders) more.fits;
  kept = kept_later c _ _ _ one.kept (kept_later c _ _ _ (kept_same c one.home_after _ _ w c c) (kept_later c _ _ _ more.kept (kept_same c more.home_after _ _ w c c)));
}

goes_behind : (home : Homes) (v : Value) (vs : List Value) (hs : List Holder) (w : World) (c : ℕ) → Fits (scene home (waiting v ∷ holding_all c vs hs) w c) → Fits (scene home (holding_all c vs (waiting v ∷ hs)) w c)
goes_behind home v vs hs w c f = held_fits home _ _ w c (λ n. let x = held_all n c vs (waiting v ∷ hs) in let y = held_all n c vs hs in omega (arith, x, y))
    (each_behind _ c (waiting v) vs hs f.holders.0 f.holders.1) f

pub all_wait : (home : Homes) (vs : List Value) (hs : List Holder) (w : World) (c : ℕ) → Each IsMoved vs → Each (NoDeeper c) hs → Fits (scene home (holding_all c vs hs) w c)
    → Waiting_ home (holding_all c vs hs) (waiting_all vs hs) w c
all_wait home [] hs w c m low f = record { home_after = home; fits = f; kept = kept_same c home hs hs w c c }
all_wait home (v ∷ vs) hs w c m low f =
    let one = one_waits home v (holding_all c vs hs) w c m.0 (none_deeper c c vs hs low) f in
    then_more home v vs hs w c one (all_wait one.home_after vs (waiting v ∷ hs) w c m.1 (tt, low) (goes_behind one.home_after v vs hs w c one.fits))

-- ---- what all iterations, or a pure function, see

owns_nothing : (home : Homes) (w : World) (a n : ℕ) (v : Value) → Sees home w a v → own n v ≡ 0
owns_nothing home w a n (Own m) h = absurd h
owns_nothing home w a n (Ref m) h = refl
owns_nothing home w a n (Iso m) h = absurd h
owns_nothing home w a n (Int z) h = refl
owns_nothing home w a n (Truth t) h = refl
owns_nothing home w a n (Text t) h = refl

pub see_fits : (home : Homes) (vs : List Value) (hs : List Holder) (w : World) (c a : ℕ) → a ≤ suc c → Each (Sees home w a) vs → Fits (scene home hs w c) → Fits (scene home (seeing_all a vs hs) w c)
see_fits home [] hs w c a le h f = f
see_fits home (v ∷ vs) hs w c a le h f =
    let more = see_fits home vs hs w c a le h.1 f in
    held_fits home (seeing_all a vs hs) (seeing a v ∷ seeing_all a vs hs) w c (λ n. let x = owns_nothing home w a n v h.0 in omega (arith, x)) ((le, h.0), more.holders) more

-- What one sees who comes in: what is read of a register that may be seen, at this depth or one further out.
pub seen_inside : (home : Homes) (w : World) (c a : ℕ) (v : Value) → a ≤ c → Within home w (Freeze a) v → Sees home w (suc c) (lent v)
seen_inside home w c a v le h = lent_seen home w (suc c) (Freeze a) v (omega (arith, le)) h

pub seen_further : (home : Homes) (w : World) (c a : ℕ) (v : Value) → a ≤ suc c → Sees home w a v → Sees home w (suc c) v
seen_further home w c a v le h = deeper_seen home w a (suc c) v le h

-- ---- a loop over isolates: the array dies, its elements wait, and the iterations see what they all get

pub record Begun (home : Homes) (gs hs : List Holder) (w u : World) (c d : ℕ) : Type 0 where
  pub home_after : Homes
  pub fits : Fits (scene home_after hs u d)
  pub kept : Kept c (scene home gs w c) (scene home_after hs u d)

pub loop_waits : (home : Homes) (hs : List Holder) (w : World) (c n : ℕ) (o : Object) → Lives w n o → Each IsMoved o.values → Each (NoDeeper c) hs → Fits (scene home (holding c (Own n) ∷ hs) w c)
    → Waiting_ home (holding_all c o.values hs) (waiting_all o.values hs) (died w n) c
loop_waits home hs w c n o e m low f = all_wait home o.values hs (died w n) c m low (died_fits home hs w c n o e f)

-- Its holders before each iteration: what all get, the items that are left, and the values that came.
abbrev pub loop_holders : ℕ → List Value → List Value → List Value → List Holder → List Holder
loop_holders c all items done hs = seeing_all (suc c) all (waiting_all items (holding_all c done hs))

seeing_leaves : (c : ℕ) (vs : List Value) (hs : List Holder) → Each (Leaves c) hs → Each (Leaves c) (seeing_all (suc c) vs hs)
seeing_leaves c [] hs x = x
seeing_leaves c (v ∷ vs) hs x = (omega arith, seeing_leaves c vs hs x)

waiting_leaves : (c : ℕ) (vs : List Value) (hs : List Holder) → Each (Leaves c) hs → Each (Leaves c) (waiting_all vs hs)
waiting_leaves c [] hs x = x
waiting_leaves c (v ∷ vs) hs x = (tt, waiting_leaves c vs hs x)

holding_leaves : (c : ℕ) (vs : List Value) (hs : List Holder) → Each (Leaves c) hs → Each (Leaves c) (holding_all c vs hs)
holding_leaves c [] hs x = x
holding_leaves c (v ∷ vs) hs x = (inl (omega arith), holding_leaves c vs hs x)

-- So the end of an iteration's freeze leaves them as they are: its steps `merges`, `keeps` and `clears` ask no more of them.
pub loop_leaves : (c : ℕ) (all items done : List Value) (hs : List Holder) → Each (Leaves c) hs → Each (Leaves c) (loop_holders c all items done hs)
loop_leaves c all items done hs x = seeing_leaves c all _ (waiting_leaves c items _ (holding_leaves c done hs x))

seeing_lowered : (c : ℕ) (vs : List Value) (hs : List Holder) → lower_all c (seeing_all (suc c) vs hs) ≡ seeing_all (suc c) vs (lower_all c hs)
seeing_lowered c [] hs = refl
seeing_lowered c (v ∷ vs) hs = ap (λ gs. seeing (suc c) v ∷ gs) (seeing_lowered c vs hs)

waiting_lowered : (c : ℕ) (vs : List Value) (hs : List Holder) → lower_all c (waiting_all vs hs) ≡ waiting_all vs (lower_all c hs)
waiting_lowered c [] hs = refl
waiting_lowered c (v ∷ vs) hs = ap (λ gs. waiting v ∷ gs) (waiting_lowered c vs hs)

holding_lowered : (c : ℕ) (vs : List Value) (hs : List Holder) → lower_all c (holding_all c vs hs) ≡ holding_all c vs (lower_all c hs)
holding_lowered c [] hs = refl
holding_lowered c (v ∷ vs) hs = ap₂ (λ k gs. holding k v ∷ gs) (let e : min c c ≡ c = omega arith in e) (holding_lowered c vs hs)

pub loop_lowered : (c : ℕ) (all items done : List Value) (hs : List Holder) → lower_all c (loop_holders c all items done hs) ≡ loop_holders c all items done (lower_all c hs)
loop_lowered c all items done hs =
    seeing_lowered c all _ ∙ ap (seeing_all (suc c) all) (waiting_lowered c items _ ∙ ap (waiting_all items) (holding_lowered c done hs))

-- An iteration begins: its freeze is opened, its item arrives, and it sees what all get.
behind_seen : (P : Holder → Type 0) (a : ℕ) (h : Holder) (vs : List Value) (hs : List Holder) → Each P (seeing_all a vs (h ∷ hs)) → P h × Each P (seeing_all a vs hs)
behind_seen P a h [] hs x = x
behind_seen P a h (v ∷ vs) hs x = let r = behind_seen P a h vs hs x.1 in (r.0, (x.0, r.1))

seeing_held : (home : Homes) (w : World) (c a n : ℕ) (vs : List Value) (hs : List Holder) → Each (HolderFits home w c) (seeing_all a vs hs) → held n (seeing_all a vs hs) ≡ held n hs
seeing_held home w c a n [] hs x = refl
seeing_held home w c a n (v ∷ vs) hs x = let y = owns_nothing home w a n v x.0.1 in let z = seeing_held home w c a n vs hs x.1 in omega (arith, y, z)

pub one_arrives : (home : Homes) (v : Value) (hs : List Holder) (w : World) (c d : ℕ) → IsMoved v → Fits (scene home (waiting v ∷ hs) w c)
    → Begun home (waiting v ∷ hs) (holding c v ∷ hs) w w c c
one_arrives home (Own n) hs w c d m f = absurd m
one_arrives home (Ref n) hs w c d m f = absurd m
one_arrives home (Iso n) hs w c d m f = record {
  home_after = homed n (At c) home;
  fits = arrives_fits home hs w c n f;
  kept = kept_homed c home _ _ w c n (At c) (λ b. subst (IsHomeBelow c) f.holders.0.1.1 b);
}
one_arrives home (Int z) hs w c d m f = record { home_after = home; fits = held_fits home _ _ w c (λ n. omega arith) ((omega arith, tt), f.holders.1) f; kept = kept_same c home _ _ w c c }
one_arrives home (Truth z) hs w c d m f = record { home_after = home; fits = held_fits home _ _ w c (λ n. omega arith) ((omega arith, tt), f.holders.1) f; kept = kept_same c home _ _ w c c }
one_arrives home (Text z) hs w c d m f = record { home_after = home; fits = held_fits home _ _ w c (λ n. omega arith) ((omega arith, tt), f.holders.1) f; kept = kept_same c home _ _ w c c }

pub iteration_begins : (home : Homes) (all : List Value) (v : Value) (items done : List Value) (hs : List Holder) (w : World) (c : ℕ) → IsMoved v
    → Fits (scene home (loop_holders c all (v ∷ items) done hs) w c)
    → (after : Homes) × Fits (scene after (holding (suc c) v ∷ loop_holders c all items done hs) w (suc c)) × Kept (suc c) (scene home (loop_holders c all (v ∷ items) done hs) w c) (scene after (holding (suc c) v ∷ loop_holders c all items done hs) w (suc c))
iteration_begins home all v items done hs w c m f =
    let opened = opens_fits home _ w c f in
    let front = held_fits home _ (waiting v ∷ loop_holders c all items done hs) w (suc c)
    (λ n. let x = seeing_held home w (suc c) (suc c) n all (waiting v ∷ waiting_all items (holding_all c done hs)) opened.holders in
    let parts = behind_seen _ (suc c) (waiting v) all (waiting_all items (holding_all c done hs)) opened.holders in
    let y = seeing_held home w (suc c) (suc c) n all (waiting_all items (holding_all c done hs)) parts.1 in
    omega (arith, x, y))
    (behind_seen _ (suc c) (waiting v) all (waiting_all items (holding_all c done hs)) opened.holders) opened in
    let there = one_arrives home v (loop_holders c all items done hs) w (suc c) c m front in
    (there.home_after, there.fits, kept_later (suc c) _ _ _ (kept_same (suc c) home _ (waiting v ∷ loop_holders c all items done hs) w c (suc c)) there.kept)
