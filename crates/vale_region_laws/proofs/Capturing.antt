-- Parallel loops as instructions.
use Rattle.std.proofs.Common.{◌≡◌, ℕ, suc, ◌+◌, ℤ, List, [], ◌∷◌, Option, Some, None, Bool, true, false, nat_le, if◌then◌else◌, refl, sym, ap, subst, arith}
use Rattle.std.specs.Prelude.{slice_get}
use Rattle.vale_base.specs.Limits.{width_limit}
use Rattle.vale_state_spec.specs.State.{State, lent, name_of, object_of, dies, width_of}
use Rattle.vale_state_spec.specs.World.{Value, Int, Truth, Text, Own, Ref, Iso, Freeze, Object, World, died}
use Rattle.vale_base.specs.declared.spot.Spot.{Spot}
use Rattle.vale_base.specs.declared.trap.TrapKind.TheVariants.{LoopTooWide}
use Rattle.vale_code.specs.Act.{act, loops, without_first}
use Rattle.vale_code.specs.Frames.{Active, Numbers, Elements, Frame, Running, Config, Next, trap}
use Rattle.vale_code.specs.Instructions.{with_owner, with_number, with_choice}
use Rattle.vale_code.specs.Parts.{Parts}
use Rattle.vale_code.specs.Registers.{Registers, read, put, kept, as_frozen, given_value, after_giving, give_all}
use Rattle.vale_code.specs.declared.func.Func.{Func}
use Rattle.vale_code.specs.declared.instr.Instr.TheVariants as i
use Rattle.vale_code.specs.declared.ty.Ty.{Ty}
use Rattle.vale_code.specs.declared.ty.Ty.TheVariants as t
use Rattle.vale_region_laws.specs.Asks.{IsMoved}
use Rattle.vale_region_laws.specs.Configs.{MarkUnder, ConfigFits, NextFits}
use Rattle.vale_region_laws.specs.Holding.{Marks, mark, put_mark, in_registers, waiting_all, in_frames}
use Rattle.vale_region_laws.specs.Passing.{IsPlain, IsFrozen, MayBeSeen, CaptureAll, nothing, leads, copies}
use Rattle.vale_region_laws.specs.Regions.{Each, Homes, Sees, How, Held, Seen, Waits, HowFits, Holder, HolderFits, holding_all}
use Rattle.vale_region_laws.proofs.Calling.{loops_next}
use Rattle.vale_region_laws.proofs.Entering.{Waiting_, loop_waits}
use Rattle.vale_region_laws.proofs.Frames.{with_tick}
use Rattle.vale_region_laws.proofs.Holding.{take_fits, take_each}
use Rattle.vale_region_laws.proofs.Leaving.{none_deeper, mark_none}
use Rattle.vale_region_laws.proofs.Moving.{lent_seen, deeper_seen}
use Rattle.vale_region_laws.proofs.Passing.{given_more}
use Rattle.vale_region_laws.proofs.States.{lives_of}

-- ---- what is captured

seen_of : (home : Homes) (w : World) (c : ℕ) (how : How) (v : Value) (n : ℕ) → MayBeSeen c how → name_of v ≡ Some n → HowFits home w how v → Sees home w (suc c) (Ref n)
seen_of home w c (Held b) v n le e x = named v e (lent_seen home w (suc c) (Freeze b) v (omega (arith, le)) x)
  where
    named : (v : Value) → name_of v ≡ Some n → Sees home w (suc c) (lent v) → Sees home w (suc c) (Ref n)
    named (Own k) e x = let q : k ≡ n = cc in subst (λ n. Sees home w (suc c) (Ref n)) q x
    named (Ref k) e x = let q : k ≡ n = cc in subst (λ n. Sees home w (suc c) (Ref n)) q x
    named (Iso k) e x = let q : k ≡ n = cc in subst (λ n. Sees home w (suc c) (Ref n)) q x
    named (Int k) e x = let y : ⊥ = cc in absurd y
    named (Truth k) e x = let y : ⊥ = cc in absurd y
    named (Text k) e x = let y : ⊥ = cc in absurd y
seen_of home w c (Seen b) (Ref k) n le e x = let q : k ≡ n = cc in subst (λ n. Sees home w (suc c) (Ref n)) q (deeper_seen home w b (suc c) (Ref k) (omega (arith, le)) x)
seen_of home w c (Seen b) (Own k) n le e x = absurd x
seen_of home w c (Seen b) (Iso k) n le e x = absurd x
seen_of home w c (Seen b) (Int k) n le e x = let y : ⊥ = cc in absurd y
seen_of home w c (Seen b) (Truth k) n le e x = let y : ⊥ = cc in absurd y
seen_of home w c (Seen b) (Text k) n le e x = let y : ⊥ = cc in absurd y
seen_of home w c Waits v n le e x = absurd le

plain_seen : (home : Homes) (w : World) (a : ℕ) (v : Value) → IsPlain v → Sees home w a v
plain_seen home w a (Own k) h = absurd h
plain_seen home w a (Ref k) h = absurd h
plain_seen home w a (Iso k) h = absurd h
plain_seen home w a (Int k) h = tt
plain_seen home w a (Truth k) h = tt
plain_seen home w a (Text k) h = tt

pub captured_seen : (home : Homes) (w : World) (c : ℕ) (ms : Marks) (regs : Registers) (hs : List Holder) (tys : List Ty) (rs : List ℕ) (vs : List Value) → CaptureAll c ms regs tys rs vs
    → Each (HolderFits home w c) (in_registers ms regs hs) → Each (Sees home w (suc c)) vs
captured_seen home w c ms regs hs tys rs vs nothing x = tt
captured_seen home w c ms regs hs tys rs vs (leads k tys' r rs' how v n vs' m le e g rest) x =
    (seen_of home w c how v n le g (take_each _ r how v ms regs hs m e x).0.1, captured_seen home w c ms regs hs tys' rs' vs' rest x)
captured_seen home w c ms regs hs tys rs vs (copies ty tys' r rs' v vs' no_frozen e is rest) x = (plain_seen home w (suc c) v is, captured_seen home w c ms regs hs tys' rs' vs' rest x)

plain_given : (ty : Ty) (r : ℕ) (v : Value) (regs : Registers) → IsFrozen ty ≡ false → IsPlain v → (given_value ty (Some v) ≡ Some v) × (after_giving ty r (Some v) regs ≡ regs)
plain_given (t.Frozen k) r v regs e h = let y : ⊥ = cc in absurd y
plain_given t.Void r v regs e h = (refl, stays v h)
  where
    stays : (v : Value) → IsPlain v → kept r v regs ≡ regs
    stays (Own k) h = absurd h
    stays (Ref k) h = absurd h
    stays (Iso k) h = absurd h
    stays (Int k) h = refl
    stays (Truth k) h = refl
    stays (Text k) h = refl
plain_given t.Int r (Int k) regs e h = (refl, refl)
plain_given t.Int r (Truth k) regs e h = (refl, refl)
plain_given t.Int r (Text k) regs e h = (refl, refl)
plain_given t.Int r (Own k) regs e h = absurd h
plain_given t.Int r (Ref k) regs e h = absurd h
plain_given t.Int r (Iso k) regs e h = absurd h
plain_given t.Truth r (Int k) regs e h = (refl, refl)
plain_given t.Truth r (Truth k) regs e h = (refl, refl)
plain_given t.Truth r (Text k) regs e h = (refl, refl)
plain_given t.Truth r (Own k) regs e h = absurd h
plain_given t.Truth r (Ref k) regs e h = absurd h
plain_given t.Truth r (Iso k) regs e h = absurd h
plain_given t.Text r (Int k) regs e h = (refl, refl)
plain_given t.Text r (Truth k) regs e h = (refl, refl)
plain_given t.Text r (Text k) regs e h = (refl, refl)
plain_given t.Text r (Own k) regs e h = absurd h
plain_given t.Text r (Ref k) regs e h = absurd h
plain_given t.Text r (Iso k) regs e h = absurd h
plain_given (t.Own q) r (Int k) regs e h = (refl, refl)
plain_given (t.Own q) r (Truth k) regs e h = (refl, refl)
plain_given (t.Own q) r (Text k) regs e h = (refl, refl)
plain_given (t.Own q) r (Own k) regs e h = absurd h
plain_given (t.Own q) r (Ref k) regs e h = absurd h
plain_given (t.Own q) r (Iso k) regs e h = absurd h
plain_given (t.Ref q) r (Int k) regs e h = (refl, refl)
plain_given (t.Ref q) r (Truth k) regs e h = (refl, refl)
plain_given (t.Ref q) r (Text k) regs e h = (refl, refl)
plain_given (t.Ref q) r (Own k) regs e h = absurd h
plain_given (t.Ref q) r (Ref k) regs e h = absurd h
plain_given (t.Ref q) r (Iso k) regs e h = absurd h
plain_given (t.Iso q) r (Int k) regs e h = (refl, refl)
plain_given (t.Iso q) r (Truth k) regs e h = (refl, refl)
plain_given (t.Iso q) r (Text k) regs e h = (refl, refl)
plain_given (t.Iso q) r (Own k) regs e h = absurd h
plain_given (t.Iso q) r (Ref k) regs e h = absurd h
plain_given (t.Iso q) r (Iso k) regs e h = absurd h

pub captured_given : (c : ℕ) (ms : Marks) (regs : Registers) (tys : List Ty) (rs : List ℕ) (vs : List Value) → CaptureAll c ms regs tys rs vs → give_all tys rs regs ≡ Some (record { values = vs; after = regs })
captured_given c ms regs tys rs vs nothing = refl
captured_given c ms regs tys rs vs (leads k tys' r rs' how v n vs' m le e g rest) =
    given_more (t.Frozen k) tys' r rs' regs v (Ref n) vs' regs e (ap as_frozen g) (captured_given c ms regs tys' rs' vs' rest)
captured_given c ms regs tys rs vs (copies ty tys' r rs' v vs' no_frozen e is rest) =
    let p = plain_given ty r v regs no_frozen is in
    given_more ty tys' r rs' regs v v vs' regs e p.0 (subst (λ q. give_all tys' rs' q ≡ Some (record { values = vs'; after = regs })) (sym p.1) (captured_given c ms regs tys' rs' vs' rest))

waiting_rest : (P : Holder → Type 0) (vs : List Value) (hs : List Holder) → Each P (waiting_all vs hs) → Each P hs
waiting_rest P [] hs x = x
waiting_rest P (v ∷ vs) hs x = waiting_rest P vs hs x.1

-- ---- the instructions

module _ (code : Parts) (last : Config → State) (f : Active) (below : List Frame) (s : State) (x : ConfigFits code (record { top = Running f; below = below; state = s })) where
  pub par_range_next : (to a b g : ℕ) (args : List ℕ) (at : Spot) (y z : ℤ) → read f.registers a ≡ Some (Int y) → read f.registers b ≡ Some (Int z)
      → ((func : Func) → slice_get code.funcs g ≡ Some func → (vs : List Value) × CaptureAll s.regions x.top.marks f.registers (without_first func.params) args vs)
      → NextFits code (act code last f below s (i.ParRange to a b g args at))
  par_range_next to a b g args at y z e h asks = number (read f.registers a) y _ e (number (read f.registers b) z _ h (wide (nat_le (width_of y z) width_limit)))
    where
      number : (n : Option Value) (k : ℤ) (go : ℤ → Next) → n ≡ Some (Int k) → NextFits code (go k) → NextFits code (with_number n s go)
      number n k go e h = subst (λ n. NextFits code (with_number n s go)) (sym e) h

      wide : (q : Bool) → NextFits code (if q then loops code last f below s to (Numbers y (width_of y z)) g args f.registers at s else trap LoopTooWide at (Running f ∷ below) s)
      wide false = tt
      wide true = loops_next code last f below s x to (Numbers y (width_of y z)) g args f.registers at s x.home x.top.marks refl x.stack.0
          (λ func found. let q = asks func found in (
            q.0,
            f.registers,
            x.top.marks,
            captured_given s.regions x.top.marks f.registers (without_first func.params) args q.0 q.1,
            x.stack.0,
            captured_seen x.home s.world s.regions x.top.marks f.registers (in_frames x.marks below) (without_first func.params) args q.0 q.1 x.fits.holders,
            x.fits,
          ))

  -- the array dies, its isolates wait, and what is captured leads to none of them
  pub par_each_next : (to a g : ℕ) (args : List ℕ) (at : Spot) (n : ℕ) (o : Object) → mark x.top.marks a ≡ Some (Held s.regions) → read f.registers a ≡ Some (Own n) → object_of n s ≡ Some o → Each IsMoved o.values
      → ((func : Func) → slice_get code.funcs g ≡ Some func → (vs : List Value) × CaptureAll s.regions (put_mark x.top.marks a None) (put f.registers a None) (without_first func.params) args vs)
      → NextFits code (act code last f below s (i.ParEach to a g args at))
  par_each_next to a g args at n o m e h moved asks = owner (read f.registers a) n _ e (choice (object_of n s) o _ h (with_tick code s _ (λ k.
      loops_next code last f below s x to (Elements o.values) g args (put f.registers a None) at (dies n (record s { left = k; spent = s.spent + 1 })) waits.home_after (put_mark x.top.marks a None) refl under
      (λ func found. let q = asks func found in (
        q.0,
        put f.registers a None,
        put_mark x.top.marks a None,
        captured_given s.regions (put_mark x.top.marks a None) (put f.registers a None) (without_first func.params) args q.0 q.1,
        under,
        captured_seen waits.home_after (died s.world n) s.regions (put_mark x.top.marks a None) (put f.registers a None) (in_frames x.marks below) (without_first func.params) args q.0 q.1
            (waiting_rest _ o.values _ waits.fits.holders),
        waits.fits,
      )))))
    where
      owner : (y : Option Value) (n : ℕ) (go : ℕ → Next) → y ≡ Some (Own n) → NextFits code (go n) → NextFits code (with_owner y s go)
      owner y n go e h = subst (λ y. NextFits code (with_owner y s go)) (sym e) h

      choice : (y : Option Object) (o : Object) (go : Object → Next) → y ≡ Some o → NextFits code (go o) → NextFits code (with_choice y s go)
      choice y o go e h = subst (λ y. NextFits code (with_choice y s go)) (sym e) h

      under : Each (MarkUnder s.regions s.regions) (put_mark x.top.marks a None)
      under = mark_none s.regions s.regions a x.top.marks x.stack.0

      waits : Waiting_ x.home (holding_all s.regions o.values (in_registers (put_mark x.top.marks a None) (put f.registers a None) (in_frames x.marks below))) (waiting_all o.values (in_registers (put_mark x.top.marks a None) (put f.registers a None) (in_frames x.marks below))) (died s.world n) s.regions
      waits = loop_waits x.home (in_registers (put_mark x.top.marks a None) (put f.registers a None) (in_frames x.marks below)) s.world s.regions n o (lives_of (slice_get s.world n) o h) moved
          (none_deeper code last f below s x (put_mark x.top.marks a None) (put f.registers a None) under)
          (take_fits x.home (in_frames x.marks below) s a (Held s.regions) (Own n) x.top.marks f.registers None m e x.fits)
