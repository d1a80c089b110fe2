-- Arguments are taken out of registers.
use Rattle.std.proofs.Common.{◌≡◌, ℕ, zero, suc, ◌+◌, List, [], ◌∷◌, map, Option, Some, None, Bool, true, false, refl, sym, ap, ◌∙◌, subst, arith}
use Rattle.vale_state_spec.specs.State.{State}
use Rattle.vale_state_spec.specs.World.{Value, Int, Truth, Text, Own, Ref, Iso, Freeze, World}
use Rattle.vale_code.specs.Registers.{Registers, read, kept, and_then, given_value, after_giving, give_all}
use Rattle.vale_code.specs.declared.ty.Ty.{Ty}
use Rattle.vale_code.specs.declared.ty.Ty.TheVariants as t
use Rattle.vale_region_laws.specs.Configs.{IsUnder, MarkUnder, in_args}
use Rattle.vale_region_laws.specs.Holding.{Marks, mark, put_mark, held_as, in_register, in_registers, taken}
use Rattle.vale_region_laws.specs.Owned.{own}
use Rattle.vale_region_laws.specs.Passing.{IsPlain, IsFrozen, PassOne, owner_out, isolate_out, reference_out, seen, reference, here, plain, plain_in, isolate_in, given_marks, PassAll, none, more, seen_in}
use Rattle.vale_region_laws.specs.Regions.{Each, Homes, Sees, How, Held, Seen, Waits, HowFits, HowDeep, Holder, HolderFits, held, IsNoDeeper, NoDeeper}
use Rattle.vale_region_laws.proofs.Entering.{one_waits}
use Rattle.vale_region_laws.proofs.Holding.{reads_fit, keep_fits, add_fits, plain_owns, plain_taken, plain_held}
use Rattle.vale_region_laws.proofs.Moving.{held_fits, lent_seen, deeper_seen}
use Rattle.vale_region_laws.proofs.States.{FitsAt}

-- a holder goes after others, and comes before them
pub record Moves (h : Holder) (before after : List Holder) : Type 1 where
  pub counts : (n : ℕ) → held n after ≡ own n h.value + held n before
  pub goes : (P : Holder → Type 0) → P h → Each P before → Each P after
  pub comes : (P : Holder → Type 0) → Each P after → P h × Each P before

pub moves_first : (h : Holder) (hs : List Holder) → Moves h hs (h ∷ hs)
moves_first h hs = record { counts = λ n. refl; goes = λ P p x. (p, x); comes = λ P x. x }

pub moves_one : (h g : Holder) (before after : List Holder) → Moves h before after → Moves h (g ∷ before) (g ∷ after)
moves_one h g before after m = record {
  counts = λ n. let y = m.counts n in omega (arith, y);
  goes = λ P p q. (q.0, m.goes P p q.1);
  comes = λ P q. let r = m.comes P q.1 in (r.0, (q.0, r.1));
}

pub moves_registers : (h : Holder) (ms : Marks) (regs : Registers) (hs gs : List Holder) → Moves h hs gs → Moves h (in_registers ms regs hs) (in_registers ms regs gs)
moves_registers h [] regs hs gs x = x
moves_registers h (m ∷ ms) [] hs gs x = x
moves_registers h (m ∷ ms) (y ∷ regs) hs gs x = at m y (moves_registers h ms regs hs gs x)
  where
    at : (m : Option How) (y : Option Value) → Moves h (in_registers ms regs hs) (in_registers ms regs gs) → Moves h (in_register m y (in_registers ms regs hs)) (in_register m y (in_registers ms regs gs))
    at None y x = x
    at (Some k) None x = x
    at (Some k) (Some v) x = moves_one h (held_as k v) _ _ x

pub moves_args : (h : Holder) (ps : List How) (vs : List Value) (hs gs : List Holder) → Moves h hs gs → Moves h (in_args ps vs hs) (in_args ps vs gs)
moves_args h [] vs hs gs x = x
moves_args h (p ∷ ps) [] hs gs x = x
moves_args h (p ∷ ps) (v ∷ vs) hs gs x = moves_one h (held_as p v) _ _ (moves_args h ps vs hs gs x)

plain_waits : (home : Homes) (w : World) (c : ℕ) (v : Value) → IsPlain v → HowFits home w Waits v
plain_waits home w c (Own m) h = absurd h
plain_waits home w c (Ref m) h = absurd h
plain_waits home w c (Iso m) h = absurd h
plain_waits home w c (Int m) h = tt
plain_waits home w c (Truth m) h = tt
plain_waits home w c (Text m) h = tt

-- the marks and registers after an argument that is no `&imm`
not_frozen : (ty : Ty) (r : ℕ) (v : Value) (ms : Marks) (regs : Registers) (hs : List Holder) → IsFrozen ty ≡ false
    → in_registers (given_marks ty r v ms) (after_giving ty r (Some v) regs) hs ≡ in_registers (taken r v ms) (kept r v regs) hs
not_frozen (t.Frozen k) r v ms regs hs e = let y : ⊥ = cc in absurd y
not_frozen t.Void r v ms regs hs e = refl
not_frozen t.Int r v ms regs hs e = refl
not_frozen t.Truth r v ms regs hs e = refl
not_frozen t.Text r v ms regs hs e = refl
not_frozen (t.Own k) r v ms regs hs e = refl
not_frozen (t.Ref k) r v ms regs hs e = refl
not_frozen (t.Iso k) r v ms regs hs e = refl

not_frozen_value : (ty : Ty) (v : Value) → IsFrozen ty ≡ false → given_value ty (Some v) ≡ Some v
not_frozen_value (t.Frozen k) v e = let y : ⊥ = cc in absurd y
not_frozen_value t.Void v e = refl
not_frozen_value t.Int v e = refl
not_frozen_value t.Truth v e = refl
not_frozen_value t.Text v e = refl
not_frozen_value (t.Own k) v e = refl
not_frozen_value (t.Ref k) v e = refl
not_frozen_value (t.Iso k) v e = refl

-- ---- one argument

pub record One (s : State) (ty : Ty) (r : ℕ) (v u : Value) (p : How) (ms : Marks) (regs : Registers) (hs : List Holder) : Type 0 where
  pub home_after : Homes
  pub value : given_value ty (Some v) ≡ Some u
  pub fits : FitsAt home_after (held_as p u ∷ in_registers (given_marks ty r v ms) (after_giving ty r (Some v) regs) hs) s

module _ (s : State) (hs : List Holder) where
  -- an `&imm` is added
  sees : (home : Homes) (ms : Marks) (regs : Registers) (n : ℕ) → Sees home s.world s.regions (Ref n) → FitsAt home (in_registers ms regs hs) s → FitsAt home (held_as (Seen s.regions) (Ref n) ∷ in_registers ms regs hs) s
  sees home ms regs n x f = add_fits home hs s (Seen s.regions) (Ref n) _ (λ k. refl) (omega arith, x) f

  pub one_passes : (home : Homes) (pure : Bool) (ty : Ty) (r : ℕ) (v u : Value) (p : How) (m : Option How) (ms : Marks) (regs : Registers) → mark ms r ≡ m → read regs r ≡ Some v → Each (NoDeeper s.regions) (in_registers (given_marks ty r v ms) (after_giving ty r (Some v) regs) hs)
      → PassOne s.regions pure ty m v p u → FitsAt home (in_registers ms regs hs) s → One s ty r v u p ms regs hs
  one_passes home pure ty r v u p m ms regs e g low (owner_out _ k b n lt) f = record {
    home_after = home;
    value = refl;
    fits = sees home ms regs n (lent_seen home s.world s.regions (Freeze b) (Own n) lt (reads_fit home hs s r (Held b) (Own n) ms regs e g f).1) f;
  }
  one_passes home pure ty r v u p m ms regs e g low (isolate_out _ k b n lt) f = record {
    home_after = home;
    value = refl;
    fits = sees home ms regs n (lent_seen home s.world s.regions (Freeze b) (Iso n) lt (reads_fit home hs s r (Held b) (Iso n) ms regs e g f).1) f;
  }
  one_passes home pure ty r v u p m ms regs e g low (reference_out _ k b n lt) f = record {
    home_after = home;
    value = refl;
    fits = sees home ms regs n (lent_seen home s.world s.regions (Freeze b) (Ref n) lt (reads_fit home hs s r (Held b) (Ref n) ms regs e g f).1) f;
  }
  one_passes home pure ty r v u p m ms regs e g low (seen _ k b n le) f = record {
    home_after = home;
    value = refl;
    fits = sees home ms regs n (deeper_seen home s.world b s.regions (Ref n) le (reads_fit home hs s r (Seen b) (Ref n) ms regs e g f).1) f;
  }
  one_passes home pure ty r v u p m ms regs e g low (reference k n) f = record {
    home_after = home;
    value = refl;
    fits = add_fits home hs s (Held s.regions) (Ref n) _ (λ k. refl) (reads_fit home hs s r (Held s.regions) (Ref n) ms regs e g f) f;
  }
  one_passes home pure ty r v u p m ms regs e g low (here _ _ no_frozen) f = record {
    home_after = home;
    value = not_frozen_value ty v no_frozen;
    fits = subst (λ gs. FitsAt home (held_as (Held s.regions) v ∷ gs) s) (sym (not_frozen ty r v ms regs hs no_frozen)) (keep_fits home hs s r (Held s.regions) v ms regs e g f);
  }
  one_passes home pure ty r v u p m ms regs e g low (plain _ _ _ no_frozen is) f = record {
    home_after = home;
    value = not_frozen_value ty v no_frozen;
    fits = subst (λ gs. FitsAt home (held_as (Held s.regions) v ∷ gs) s) (sym (not_frozen ty r v ms regs hs no_frozen))
        (subst (λ gs. FitsAt home (held_as (Held s.regions) v ∷ gs) s) (sym (plain_taken r v ms regs hs is)) (add_fits home hs s (Held s.regions) v _ (plain_owns v is) (omega arith, plain_held home s.world s.regions v is) f));
  }
  one_passes home pure ty r v u p m ms regs e g low (plain_in _ _ _ no_frozen is) f = record {
    home_after = home;
    value = not_frozen_value ty v no_frozen;
    fits = subst (λ gs. FitsAt home (held_as Waits v ∷ gs) s) (sym (not_frozen ty r v ms regs hs no_frozen))
        (subst (λ gs. FitsAt home (held_as Waits v ∷ gs) s) (sym (plain_taken r v ms regs hs is)) (add_fits home hs s Waits v _ (plain_owns v is) (tt, plain_waits home s.world s.regions v is) f));
  }
  one_passes home pure ty r v u p m ms regs e g low (isolate_in _ n no_frozen) f =
      let w = one_waits home (Iso n) (in_registers (given_marks ty r (Iso n) ms) (after_giving ty r (Some (Iso n)) regs) hs) s.world s.regions tt low
      (subst (λ gs. FitsAt home (held_as (Held s.regions) (Iso n) ∷ gs) s) (sym (not_frozen ty r (Iso n) ms regs hs no_frozen)) (keep_fits home hs s r (Held s.regions) (Iso n) ms regs e g f)) in
      record { home_after = w.home_after; value = not_frozen_value ty v no_frozen; fits = w.fits }

-- ---- all arguments

pass_low : (c : ℕ) (pure : Bool) (ty : Ty) (m : Option How) (v u : Value) (p : How) → PassOne c pure ty m v p u → IsNoDeeper c p
pass_low c pure ty m v u p (owner_out _ k b n lt) = omega arith
pass_low c pure ty m v u p (isolate_out _ k b n lt) = omega arith
pass_low c pure ty m v u p (reference_out _ k b n lt) = omega arith
pass_low c pure ty m v u p (seen _ k b n le) = omega arith
pass_low c pure ty m v u p (reference k n) = tt
pass_low c pure ty m v u p (here _ _ e) = tt
pass_low c pure ty m v u p (plain _ _ _ e is) = tt
pass_low c pure ty m v u p (plain_in _ _ _ e is) = tt
pass_low c pure ty m v u p (isolate_in _ n e) = tt

pass_under : (c : ℕ) (pure : Bool) (ty : Ty) (m : Option How) (v u : Value) (p : How) → PassOne c pure ty m v p u → IsUnder c c p
pass_under c pure ty m v u p (owner_out _ k b n lt) = omega arith
pass_under c pure ty m v u p (isolate_out _ k b n lt) = omega arith
pass_under c pure ty m v u p (reference_out _ k b n lt) = omega arith
pass_under c pure ty m v u p (seen _ k b n le) = omega arith
pass_under c pure ty m v u p (reference k n) = omega arith
pass_under c pure ty m v u p (here _ _ e) = omega arith
pass_under c pure ty m v u p (plain _ _ _ e is) = omega arith
pass_under c pure ty m v u p (plain_in _ _ _ e is) = tt
pass_under c pure ty m v u p (isolate_in _ n e) = tt

pub none_put : (r b a : ℕ) (ms : Marks) → Each (MarkUnder r b) ms → Each (MarkUnder r b) (put_mark ms a None)
none_put r b zero [] x = (tt, tt)
none_put r b (suc a) [] x = (tt, none_put r b a [] x)
none_put r b zero (m ∷ ms) x = (tt, x.1)
none_put r b (suc a) (m ∷ ms) x = (x.0, none_put r b a ms x.1)

pub taken_under : (r b a : ℕ) (v : Value) (ms : Marks) → Each (MarkUnder r b) ms → Each (MarkUnder r b) (taken a v ms)
taken_under r b a (Own n) ms x = none_put r b a ms x
taken_under r b a (Iso n) ms x = none_put r b a ms x
taken_under r b a (Ref n) ms x = x
taken_under r b a (Int n) ms x = x
taken_under r b a (Truth n) ms x = x
taken_under r b a (Text n) ms x = x

pub given_under : (r b : ℕ) (ty : Ty) (a : ℕ) (v : Value) (ms : Marks) → Each (MarkUnder r b) ms → Each (MarkUnder r b) (given_marks ty a v ms)
given_under r b (t.Frozen k) a v ms x = x
given_under r b t.Void a v ms x = taken_under r b a v ms x
given_under r b t.Int a v ms x = taken_under r b a v ms x
given_under r b t.Truth a v ms x = taken_under r b a v ms x
given_under r b t.Text a v ms x = taken_under r b a v ms x
given_under r b (t.Own k) a v ms x = taken_under r b a v ms x
given_under r b (t.Ref k) a v ms x = taken_under r b a v ms x
given_under r b (t.Iso k) a v ms x = taken_under r b a v ms x

registers_low : (c : ℕ) (ms : Marks) (regs : Registers) (hs : List Holder) → Each (MarkUnder c c) ms → Each (NoDeeper c) hs → Each (NoDeeper c) (in_registers ms regs hs)
registers_low c [] regs hs u x = x
registers_low c (m ∷ ms) [] hs u x = x
registers_low c (m ∷ ms) (y ∷ regs) hs u x = at m y u.0 (registers_low c ms regs hs u.1 x)
  where
    one : (how : How) → IsUnder c c how → IsNoDeeper c how
    one (Held a) u = tt
    one (Seen a) u = u
    one Waits u = tt

    at : (m : Option How) (y : Option Value) → MarkUnder c c m → Each (NoDeeper c) (in_registers ms regs hs) → Each (NoDeeper c) (in_register m y (in_registers ms regs hs))
    at None y u x = x
    at (Some h) None u x = x
    at (Some h) (Some v) u x = (one h u, x)

pub record All (s : State) (tys : List Ty) (rs : List ℕ) (regs : Registers) (ps : List How) (vs : List Value) (ns : Marks) (after : Registers) (hs : List Holder) : Type 0 where
  pub home_after : Homes
  pub given : give_all tys rs regs ≡ Some (record { values = vs; after = after })
  pub fits : FitsAt home_after (in_args ps vs (in_registers ns after hs)) s
  pub marks : Each (MarkUnder s.regions s.regions) ns
  pub args : Each (IsUnder s.regions s.regions) ps

pub given_more : (ty : Ty) (tys : List Ty) (r : ℕ) (rs : List ℕ) (regs : Registers) (v u : Value) (vs : List Value) (after : Registers) → read regs r ≡ Some v → given_value ty (Some v) ≡ Some u
    → give_all tys rs (after_giving ty r (Some v) regs) ≡ Some (record { values = vs; after = after }) → give_all (ty ∷ tys) (r ∷ rs) regs ≡ Some (record { values = u ∷ vs; after = after })
given_more ty tys r rs regs v u vs after e g h =
    ap (λ x. and_then (given_value ty x) (give_all tys rs (after_giving ty r x regs))) e ∙ ap (λ x. and_then x (give_all tys rs (after_giving ty r (Some v) regs))) g ∙ ap (and_then (Some u)) h

pub all_pass : (s : State) (pure : Bool) (tys : List Ty) (rs : List ℕ) (ms : Marks) (regs : Registers) (ps : List How) (vs : List Value) (ns : Marks) (after : Registers) (home : Homes) (hs : List Holder)
    → PassAll s.regions pure tys rs ms regs ps vs ns after → Each (MarkUnder s.regions s.regions) ms → Each (NoDeeper s.regions) hs → FitsAt home (in_registers ms regs hs) s
    → All s tys rs regs ps vs ns after hs
all_pass s pure tys rs ms regs ps vs ns after home hs (none _ _) under low f = record { home_after = home; given = refl; fits = f; marks = under; args = tt }
all_pass s pure tys rs ms regs ps vs ns after home hs (more ty tys' r rs' _ _ v u p ps' vs' _ _ e one rest) under low f =
    let marked = given_under s.regions s.regions ty r v ms under in
    let o = one_passes s hs home pure ty r v u p (mark ms r) ms regs refl e (registers_low s.regions (given_marks ty r v ms) (after_giving ty r (Some v) regs) hs marked low) one f in
    let behind = moves_registers (held_as p u) (given_marks ty r v ms) (after_giving ty r (Some v) regs) hs (held_as p u ∷ hs) (moves_first (held_as p u) hs) in
    let f1 = held_fits o.home_after (held_as p u ∷ in_registers (given_marks ty r v ms) (after_giving ty r (Some v) regs) hs) (in_registers (given_marks ty r v ms) (after_giving ty r (Some v) regs) (held_as p u ∷ hs)) s.world s.regions
    (λ n. let y = behind.counts n in omega (arith, y)) (behind.goes _ o.fits.holders.0 o.fits.holders.1) o.fits in
    let more_ = all_pass s pure tys' rs' (given_marks ty r v ms) (after_giving ty r (Some v) regs) ps' vs' ns after o.home_after (held_as p u ∷ hs) rest marked (pass_low s.regions pure ty (mark ms r) v u p one, low) f1 in
    let front = moves_args (held_as p u) ps' vs' (in_registers ns after hs) (in_registers ns after (held_as p u ∷ hs)) (moves_registers (held_as p u) ns after hs (held_as p u ∷ hs) (moves_first (held_as p u) hs)) in
    record {
      home_after = more_.home_after;
      given = given_more ty tys' r rs' regs v u vs' after e o.value more_.given;
      fits = held_fits more_.home_after (in_args ps' vs' (in_registers ns after (held_as p u ∷ hs))) (held_as p u ∷ in_args ps' vs' (in_registers ns after hs)) s.world s.regions
          (λ n. let y = front.counts n in omega (arith, y)) (front.comes _ more_.fits.holders) more_.fits;
      marks = more_.marks;
      args = (pass_under s.regions pure ty (mark ms r) v u p one, more_.args);
    }

-- ---- what a pure function gets

pass_in : (home : Homes) (w : World) (c : ℕ) (ty : Ty) (m : Option How) (v u : Value) (p : How) → PassOne c true ty m v p u → HowFits home w p u → HowFits home w (seen_in c p) u
pass_in home w c ty m v u p (owner_out _ k b n lt) x = deeper_seen home w c (suc c) (Ref n) (omega arith) x
pass_in home w c ty m v u p (isolate_out _ k b n lt) x = deeper_seen home w c (suc c) (Ref n) (omega arith) x
pass_in home w c ty m v u p (reference_out _ k b n lt) x = deeper_seen home w c (suc c) (Ref n) (omega arith) x
pass_in home w c ty m v u p (seen _ k b n le) x = deeper_seen home w c (suc c) (Ref n) (omega arith) x
pass_in home w c ty m v u p (reference k n) x = lent_seen home w (suc c) (Freeze c) (Ref n) (omega arith) x
pass_in home w c ty m v u p (plain_in _ _ _ e is) x = x
pass_in home w c ty m v u p (isolate_in _ n e) x = x

in_deep : (c : ℕ) (p : How) → HowDeep c (seen_in c p)
in_deep c (Held a) = omega arith
in_deep c (Seen a) = omega arith
in_deep c Waits = tt

all_in : (home : Homes) (w : World) (c : ℕ) (tys : List Ty) (rs : List ℕ) (ms : Marks) (regs : Registers) (ps : List How) (vs : List Value) (ns : Marks) (after : Registers) (hs : List Holder)
    → PassAll c true tys rs ms regs ps vs ns after → Each (HolderFits home w c) (in_args ps vs hs) → Each (HolderFits home w c) (in_args (map (seen_in c) ps) vs hs)
all_in home w c tys rs ms regs ps vs ns after hs (none _ _) x = x
all_in home w c tys rs ms regs ps vs ns after hs (more ty tys' r rs' _ _ v u p ps' vs' _ _ e one rest) x =
    ((in_deep c p, pass_in home w c ty (mark ms r) v u p one x.0.1), all_in home w c tys' rs' _ _ ps' vs' ns after hs rest x.1)

args_same : (n c : ℕ) (ps : List How) (vs : List Value) (hs : List Holder) → held n (in_args (map (seen_in c) ps) vs hs) ≡ held n (in_args ps vs hs)
args_same n c [] vs hs = refl
args_same n c (p ∷ ps) [] hs = refl
args_same n c (p ∷ ps) (v ∷ vs) hs = let y = args_same n c ps vs hs in omega (arith, y)

pub all_seen : (s : State) (tys : List Ty) (rs : List ℕ) (ms : Marks) (regs : Registers) (ps : List How) (vs : List Value) (ns : Marks) (after : Registers) (home : Homes) (hs : List Holder)
    → PassAll s.regions true tys rs ms regs ps vs ns after → FitsAt home (in_args ps vs hs) s → FitsAt home (in_args (map (seen_in s.regions) ps) vs hs) s
all_seen s tys rs ms regs ps vs ns after home hs p f = held_fits home (in_args ps vs hs) (in_args (map (seen_in s.regions) ps) vs hs) s.world s.regions
    (λ n. let y = args_same n s.regions ps vs hs in omega (arith, y)) (all_in home s.world s.regions tys rs ms regs ps vs ns after hs p f.holders) f

pub seen_args_under : (c : ℕ) (ps : List How) → Each (IsUnder c (suc c)) (map (seen_in c) ps)
seen_args_under c [] = tt
seen_args_under c (p ∷ ps) = (at p, seen_args_under c ps)
  where
    at : (p : How) → IsUnder c (suc c) (seen_in c p)
    at (Held a) = omega arith
    at (Seen a) = omega arith
    at Waits = tt
