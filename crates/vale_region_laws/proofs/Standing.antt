-- How deep what frames hold lies, and what a freeze's end leaves as it is.
use Rattle.std.proofs.Common.{◌≡◌, ◌≤◌, ℕ, zero, suc, ◌+◌, ◌-◌, min, List, [], ◌∷◌, ◌++◌, length, map, replicate, Option, Some, None, inl, refl, ap, ap₂, subst, arith}
use Rattle.vale_state_spec.specs.World.{Value, Int, Truth, Text, Own, Ref, Iso, World}
use Rattle.vale_code.specs.Enter.{Form, Plain, Pure, Iteration, Destructor}
use Rattle.vale_code.specs.Frames.{Frame, Running, Dropping, Looping, Alone, Items, Numbers, Elements}
use Rattle.vale_code.specs.Parts.{Parts}
use Rattle.vale_code.specs.Registers.{Registers, registers_for}
use Rattle.vale_region_laws.specs.Configs.{IsUnder, Standing, MarkUnder, base_of, StackFits, in_args, arrived}
use Rattle.vale_region_laws.specs.Holding.{Marks, held_as, in_register, in_registers, waiting_all, seeing_all, items_wait, Marked, in_frames}
use Rattle.vale_region_laws.specs.Owned.{own}
use Rattle.vale_region_laws.specs.Regions.{Each, At, Homes, IsHomeBelow, How, Held, Seen, Waits, Holder, held, Fits, Kept, scene, holding_all, how_outside, lower_all, MayLeave, Leaves, IsNoDeeper, NoDeeper, homed}
use Rattle.vale_region_laws.proofs.Counts.{each_map}
use Rattle.vale_region_laws.proofs.Keeping.{kept_same, kept_later, kept_homed}
use Rattle.vale_region_laws.proofs.Moving.{held_fits, arrives_fits}

under_deeper : (r b q d : ℕ) → r ≤ q → b ≤ d → (how : How) → IsUnder r b how → IsUnder q d how
under_deeper r b q d le lf (Held a) u = omega (arith, le, u)
under_deeper r b q d le lf (Seen a) u = omega (arith, lf, u)
under_deeper r b q d le lf Waits u = tt

pub standing_deeper : (r b q d : ℕ) → r ≤ q → b ≤ d → (hs : List Holder) → Standing r b hs → Standing q d hs
standing_deeper r b q d le lf hs x = each_map _ _ hs (λ h. under_deeper r b q d le lf h.how) x

-- what stands below may be left
pub standing_leaves : (r b c : ℕ) → r ≤ c → b ≤ suc c → (hs : List Holder) → Standing r b hs → Each (Leaves c) hs
standing_leaves r b c le lf hs x = each_map _ _ hs (λ h. at h.how h.value) x
  where
    at : (how : How) (v : Value) → IsUnder r b how → MayLeave c how v
    at (Held a) v u = inl (omega (arith, le, u))
    at (Seen a) v u = omega (arith, lf, u)
    at Waits v u = tt

-- and it stays as it is
pub standing_same : (r b c : ℕ) → r ≤ c → (hs : List Holder) → Standing r b hs → lower_all c hs ≡ hs
standing_same r b c le [] x = refl
standing_same r b c le (h ∷ hs) x = ap₂ (λ h hs. h ∷ hs) (ap (held_by h.value) (at h.how x.0)) (standing_same r b c le hs x.1)
  where
    held_by : Value → How → Holder
    held_by v how = record { how = how; value = v }

    at : (how : How) → IsUnder r b how → how_outside c how ≡ how
    at (Held a) u = ap Held (let e : min a c ≡ a = omega (arith, le, u) in e)
    at (Seen a) u = refl
    at Waits u = refl

pub standing_no_deeper : (r b c : ℕ) → b ≤ c → (hs : List Holder) → Standing r b hs → Each (NoDeeper c) hs
standing_no_deeper r b c le hs x = each_map _ _ hs (λ h. at h.how) x
  where
    at : (how : How) → IsUnder r b how → IsNoDeeper c how
    at (Held a) u = tt
    at (Seen a) u = omega (arith, le, u)
    at Waits u = tt

-- ---- frames

pub standing_registers : (r b : ℕ) (ms : Marks) (regs : Registers) (hs : List Holder) → Each (MarkUnder r b) ms → Standing r b hs → Standing r b (in_registers ms regs hs)
standing_registers r b [] regs hs u x = x
standing_registers r b (m ∷ ms) [] hs u x = x
standing_registers r b (m ∷ ms) (y ∷ regs) hs u x = at m y u.0 (standing_registers r b ms regs hs u.1 x)
  where
    at : (m : Option How) (y : Option Value) → MarkUnder r b m → Standing r b (in_registers ms regs hs) → Standing r b (in_register m y (in_registers ms regs hs))
    at None y u x = x
    at (Some h) None u x = x
    at (Some h) (Some v) u x = (u, x)

standing_held : (r b a : ℕ) → a ≤ r → (vs : List Value) (hs : List Holder) → Standing r b hs → Standing r b (holding_all a vs hs)
standing_held r b a le [] hs x = x
standing_held r b a le (v ∷ vs) hs x = (le, standing_held r b a le vs hs x)

standing_seen : (r b a : ℕ) → a ≤ b → (vs : List Value) (hs : List Holder) → Standing r b hs → Standing r b (seeing_all a vs hs)
standing_seen r b a le [] hs x = x
standing_seen r b a le (v ∷ vs) hs x = (le, standing_seen r b a le vs hs x)

standing_waits : (r b : ℕ) (vs : List Value) (hs : List Holder) → Standing r b hs → Standing r b (waiting_all vs hs)
standing_waits r b [] hs x = x
standing_waits r b (v ∷ vs) hs x = (tt, standing_waits r b vs hs x)

standing_items : (r b : ℕ) (items : Items) (hs : List Holder) → Standing r b hs → Standing r b (items_wait items hs)
standing_items r b (Numbers x more) hs s = s
standing_items r b (Elements vs) hs s = standing_waits r b vs hs s

pub base_out : (form : Form) (out : ℕ) → out ≤ base_of form out
base_out Plain out = omega arith
base_out Destructor out = omega arith
base_out Pure out = omega arith
base_out Iteration out = omega arith

pub stack_stands : (code : Parts) (r b : ℕ) (ms : List Marked) (fs : List Frame) → StackFits code r b ms fs → Standing r b (in_frames ms fs)
stack_stands code r b [] [] x = tt
stack_stands code r b [] (f ∷ fs) x = absurd x
stack_stands code r b (m ∷ ms) [] x = absurd x
stack_stands code r b (m ∷ ms) (Running f ∷ fs) x =
    standing_registers r b m.marks f.registers (in_frames ms fs) (each_map _ _ m.marks deeper x.1)
    (standing_deeper x.3 (base_of x.2 x.3) r b (let y = base_out x.2 x.3 in let z = x.5 in omega (arith, y, z)) (let y = x.6 in let z = x.5 in omega (arith, y, z)) (in_frames ms fs)
    (stack_stands code x.3 (base_of x.2 x.3) ms fs x.7))
  where
    deeper : (m : Option How) → MarkUnder r r m → MarkUnder r b m
    deeper None u = tt
    deeper (Some how) u = under_deeper r r r b (omega arith) x.6 how u
stack_stands code r b (m ∷ ms) (Dropping f ∷ fs) x =
    standing_held r b m.depth (let y = x.0 in omega (arith, y)) f.rest (in_frames ms fs) (standing_deeper r r r b (omega arith) x.1 (in_frames ms fs) (stack_stands code r r ms fs x.2))
stack_stands code r b (m ∷ ms) (Looping f ∷ fs) x =
    standing_seen r b (suc m.depth) (let y = x.0 in let z = x.1 in omega (arith, y, z)) f.captured _ (standing_items r b f.items _ (standing_held r b m.depth (let y = x.0 in omega (arith, y)) f.done (in_frames ms fs)
    (standing_deeper r r r b (omega arith) (let z = x.1 in omega (arith, z)) (in_frames ms fs) (stack_stands code r r ms fs x.2))))
stack_stands code r b (m ∷ ms) (Alone v ∷ fs) x = standing_deeper r r r b (omega arith) x.1 (in_frames ms fs) (stack_stands code r r ms fs x.2)

-- ---- arguments

pub begun_registers : (ps : List How) (vs : List Value) (count : ℕ) (hs : List Holder) → in_registers (map Some ps) (registers_for count vs) hs ≡ in_args ps vs hs
begun_registers ps vs count hs = values ps vs (count - length vs)
  where
    nothing : (ps : List How) (k : ℕ) → in_registers (map Some ps) (replicate k None) hs ≡ hs
    nothing [] k = refl
    nothing (p ∷ ps) zero = refl
    nothing (p ∷ ps) (suc k) = nothing ps k

    values : (ps : List How) (vs : List Value) (k : ℕ) → in_registers (map Some ps) (map Some vs ++ replicate k None) hs ≡ in_args ps vs hs
    values [] vs k = refl
    values (p ∷ ps) [] k = nothing (p ∷ ps) k
    values (p ∷ ps) (v ∷ vs) k = ap (λ gs. held_as p v ∷ gs) (values ps vs k)

args_counts : (n : ℕ) (h : Holder) (ps : List How) (vs : List Value) (hs : List Holder) → held n (in_args ps vs (h ∷ hs)) ≡ own n h.value + held n (in_args ps vs hs)
args_counts n h [] vs hs = refl
args_counts n h (p ∷ ps) [] hs = refl
args_counts n h (p ∷ ps) (v ∷ vs) hs = let x = args_counts n h ps vs hs in omega (arith, x)

args_behind : (P : Holder → Type 0) (h : Holder) (ps : List How) (vs : List Value) (hs : List Holder) → P h → Each P (in_args ps vs hs) → Each P (in_args ps vs (h ∷ hs))
args_behind P h [] vs hs x y = (x, y)
args_behind P h (p ∷ ps) [] hs x y = (x, y)
args_behind P h (p ∷ ps) (v ∷ vs) hs x y = (y.0, args_behind P h ps vs hs x y.1)

args_before : (P : Holder → Type 0) (h : Holder) (ps : List How) (vs : List Value) (hs : List Holder) → Each P (in_args ps vs (h ∷ hs)) → P h × Each P (in_args ps vs hs)
args_before P h [] vs hs y = y
args_before P h (p ∷ ps) [] hs y = y
args_before P h (p ∷ ps) (v ∷ vs) hs y = let r = args_before P h ps vs hs y.1 in (r.0, (y.0, r.1))

-- what waits among them arrives
pub record Arrived (gs hs : List Holder) (home : Homes) (w : World) (d : ℕ) : Type 0 where
  pub home_after : Homes
  pub fits : Fits (scene home_after hs w d)
  pub kept : Kept d (scene home gs w d) (scene home_after hs w d)

one_arrives : (how : How) (v : Value) (home : Homes) (hs : List Holder) (w : World) (d : ℕ) → Fits (scene home (held_as how v ∷ hs) w d) → Arrived (held_as how v ∷ hs) (held_as (arrived d how) v ∷ hs) home w d
one_arrives (Held a) v home hs w d f = record { home_after = home; fits = f; kept = kept_same d home _ _ w d d }
one_arrives (Seen a) v home hs w d f = record { home_after = home; fits = f; kept = kept_same d home _ _ w d d }
one_arrives Waits (Own n) home hs w d f = absurd f.holders.0.1
one_arrives Waits (Ref n) home hs w d f = absurd f.holders.0.1
one_arrives Waits (Iso n) home hs w d f = record {
  home_after = homed n (At d) home;
  fits = arrives_fits home hs w d n f;
  kept = kept_homed d home _ _ w d n (At d) (λ b. subst (IsHomeBelow d) f.holders.0.1.1 b);
}
one_arrives Waits (Int z) home hs w d f = record { home_after = home; fits = held_fits home _ _ w d (λ n. omega arith) ((omega arith, tt), f.holders.1) f; kept = kept_same d home _ _ w d d }
one_arrives Waits (Truth z) home hs w d f = record { home_after = home; fits = held_fits home _ _ w d (λ n. omega arith) ((omega arith, tt), f.holders.1) f; kept = kept_same d home _ _ w d d }
one_arrives Waits (Text z) home hs w d f = record { home_after = home; fits = held_fits home _ _ w d (λ n. omega arith) ((omega arith, tt), f.holders.1) f; kept = kept_same d home _ _ w d d }

goes_behind : (home : Homes) (h : Holder) (ps : List How) (vs : List Value) (hs : List Holder) (w : World) (d : ℕ) → Fits (scene home (h ∷ in_args ps vs hs) w d) → Fits (scene home (in_args ps vs (h ∷ hs)) w d)
goes_behind home h ps vs hs w d f = held_fits home _ _ w d (λ n. let x = args_counts n h ps vs hs in omega (arith, x)) (args_behind _ h ps vs hs f.holders.0 f.holders.1) f

comes_before : (home : Homes) (h : Holder) (ps : List How) (vs : List Value) (hs : List Holder) (w : World) (d : ℕ) → Fits (scene home (in_args ps vs (h ∷ hs)) w d) → Fits (scene home (h ∷ in_args ps vs hs) w d)
comes_before home h ps vs hs w d f = held_fits home _ _ w d (λ n. let x = args_counts n h ps vs hs in omega (arith, x)) (args_before _ h ps vs hs f.holders) f

more_arrive : (home : Homes) (how : How) (v : Value) (ps : List How) (vs : List Value) (hs : List Holder) (w : World) (d : ℕ)
    (one : Arrived (held_as how v ∷ in_args ps vs hs) (held_as (arrived d how) v ∷ in_args ps vs hs) home w d)
    → Arrived (in_args ps vs (held_as (arrived d how) v ∷ hs)) (in_args (map (arrived d) ps) vs (held_as (arrived d how) v ∷ hs)) one.home_after w d
    → Arrived (held_as how v ∷ in_args ps vs hs) (held_as (arrived d how) v ∷ in_args (map (arrived d) ps) vs hs) home w d
more_arrive home how v ps vs hs w d one more = record {
  home_after = more.home_after;
  fits = comes_before more.home_after (held_as (arrived d how) v) (map (arrived d) ps) vs hs w d more.fits;
  kept = kept_later d _ _ _ one.kept (kept_later d _ _ _ (kept_same d one.home_after _ _ w d d) (kept_later d _ _ _ more.kept (kept_same d more.home_after _ _ w d d)));
}

pub all_arrive : (ps : List How) (vs : List Value) (home : Homes) (hs : List Holder) (w : World) (d : ℕ) → Fits (scene home (in_args ps vs hs) w d) → Arrived (in_args ps vs hs) (in_args (map (arrived d) ps) vs hs) home w d
all_arrive [] vs home hs w d f = record { home_after = home; fits = f; kept = kept_same d home _ _ w d d }
all_arrive (p ∷ ps) [] home hs w d f = record { home_after = home; fits = f; kept = kept_same d home _ _ w d d }
all_arrive (p ∷ ps) (v ∷ vs) home hs w d f =
    let one = one_arrives p v home (in_args ps vs hs) w d f in
    more_arrive home p v ps vs hs w d one (all_arrive ps vs one.home_after (held_as (arrived d p) v ∷ hs) w d (goes_behind one.home_after (held_as (arrived d p) v) ps vs hs w d one.fits))
