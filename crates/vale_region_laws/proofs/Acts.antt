-- What the instructions of a function under way do to what is held, where its registers are held as these marks say: those that
-- go on in the same function.
use Rattle.std.proofs.Common.{◌≡◌, ◌≤◌, ◌<◌, ℕ, zero, suc, ◌+◌, ◌-◌, ℤ, List, [], ◌∷◌, Option, Some, None, Bool, true, false, if◌then◌else◌, ◌⊎◌, inl, inr, refl, sym, ap, ◌∙◌, subst, arith}
use Rattle.std.specs.Prelude.{slice_get}
use Rattle.vale_state_spec.specs.State.{State, Answer, gives, traps, fails, name_of, lent, object_of, spend_of, has_depth, dies, load, element, swap, swap_element, push, pop, merge, freeze, thaw, merged, kept, cleared}
use Rattle.vale_state_spec.specs.World.{Value, Int, Truth, Text, Own, Ref, Iso, Region, Freeze, Isolate, Object, World, Lives, relabelled}
use Rattle.vale_base.specs.declared.name.Kind.{Kind}
use Rattle.vale_base.specs.declared.spot.Spot.{Spot}
use Rattle.vale_base.specs.declared.trap.TrapKind.{TrapKind}
use Rattle.vale_base.specs.declared.trap.TrapKind.TheVariants.{DeadReference, IndexOutOfRange, ArrayTooLong, EmptyPop}
use Rattle.vale_code.specs.Act.{act}
use Rattle.vale_code.specs.Frames.{Active, Frame, Running, Dropping, Looping, Alone, Config, Next, On, Over, trap, ticked, under}
use Rattle.vale_code.specs.Instructions.{copied, moved, borrowed, leading, of_living, onward, at_place, array_length, with_value, with_registers, with_owner, with_choice, gets, answered, certain}
use Rattle.vale_code.specs.Parts.{Parts}
use Rattle.vale_code.specs.Registers.{Registers, read, put, kept as kept_from, with_result, as_frozen, put_all}
use Rattle.vale_code.specs.declared.instr.Instr.TheVariants as i
use Rattle.vale_region_laws.specs.Asks.{mark_outside, lower_marks}
use Rattle.vale_region_laws.specs.Holding.{Marks, mark, put_mark, held_as, in_register, in_registers, taken}
use Rattle.vale_region_laws.specs.Owned.{own}
use Rattle.vale_region_laws.specs.Passing.{IsPlain}
use Rattle.vale_region_laws.specs.Regions.{Each, Homes, InRegion, Within, IsBelow, Below, Sees, How, Held, Seen, Waits, Holder, HolderFits, HowFits, Fits, scene, holding, holding_all, lowered_home, kept_home, lower_all, Leaves, HoldsNoIso, IsNoIso}
use Rattle.vale_region_laws.proofs.Holding.{reads_fit, take_fits, keep_fits, store_fits, give_fits, add_fits, plain_owns, plain_held}
use Rattle.vale_region_laws.proofs.Plain.{PlainOut}
use Rattle.vale_region_laws.proofs.Moving.{opens_fits, lent_seen, deeper_seen}
use Rattle.vale_region_laws.proofs.States.{FitsAt, dies_fits, on_found, Gives, LeadsInside, LeadsBelow, ReadSeen, ReadHeld, CellsOpen, ComesOut, NothingOut, swap_fits, swap_element_fits, push_fits, pop_fits, merge_fits, load_seen, load_held, element_seen, element_held}
use Rattle.vale_region_laws.proofs.Thawing.{merged_fits, kept_fits, cleared_fits}
use Rattle.vale_region_laws.proofs.Worlds.{region_is}

-- ---- what a step leads to

-- the function goes on at a place, over these frames, where so many freezes are open
pub record Around : Type 0 where
  pub function : ℕ
  pub dest : Option ℕ
  pub place : ℕ
  pub below : List Frame
  pub opened : ℕ

abbrev pub TopFits : Around → Marks → List Holder → Frame → List Frame → State → Type 0
TopFits r ms hs (Running g) fs t = (home : Homes) × FitsAt home (in_registers ms g.registers hs) t × (g.function ≡ r.function) × (g.dest ≡ r.dest) × (g.place ≡ r.place) × (fs ≡ r.below) × (t.regions ≡ r.opened)
TopFits r ms hs (Dropping g) fs t = ⊥
TopFits r ms hs (Looping g) fs t = ⊥
TopFits r ms hs (Alone v) fs t = ⊥

abbrev pub NextFits_ : Around → Marks → List Holder → Next → Type 0
NextFits_ r ms hs (On d) = TopFits r ms hs d.top d.below d.state
NextFits_ r ms hs (Over end v t) = Unit {0}

module _ (r : Around) (ms : Marks) (hs : List Holder) (f : Active) (below : List Frame) (s : State) where
  reads : (x : Option Value) (go : Value → Next) → ((v : Value) → x ≡ Some v → NextFits_ r ms hs (go v)) → NextFits_ r ms hs (with_value x s go)
  reads None go each = tt
  reads (Some v) go each = each v refl

  owns : (x : Option Value) (go : ℕ → Next) → ((n : ℕ) → x ≡ Some (Own n) → NextFits_ r ms hs (go n)) → NextFits_ r ms hs (with_owner x s go)
  owns None go each = tt
  owns (Some (Own n)) go each = each n refl
  owns (Some (Iso n)) go each = tt
  owns (Some (Ref n)) go each = tt
  owns (Some (Int n)) go each = tt
  owns (Some (Truth n)) go each = tt
  owns (Some (Text n)) go each = tt

  after_answer : (to : Option ℕ) (regs : Registers) (at : Spot) (P : Option Value → State → Type 0) (a : Answer) → Gives P a
      → ((v : Option Value) (t : State) → P v t → NextFits_ r ms hs (onward f (with_result to v regs) below t)) → NextFits_ r ms hs (answered f to regs at below s a)
  after_answer to regs at P (gives v t) p go = go v t p
  after_answer to regs at P (traps k) p go = tt
  after_answer to regs at P fails p go = tt

  after_certain : (to : Option ℕ) (regs : Registers) (P : Option Value → State → Type 0) (a : Answer) → Gives P a
      → ((v : Option Value) (t : State) → P v t → NextFits_ r ms hs (onward f (with_result to v regs) below t)) → NextFits_ r ms hs (certain f to regs below s a)
  after_certain to regs P (gives v t) p go = go v t p
  after_certain to regs P (traps k) p go = tt
  after_certain to regs P fails p go = tt

living_gives : (P : Option Value → State → Type 0) (a : Answer) → Gives P a → Gives P (of_living a)
living_gives P (gives v t) p = p
living_gives P (traps DeadReference) p = tt
living_gives P (traps IndexOutOfRange) p = tt
living_gives P (traps _) p = tt
living_gives P fails p = tt

-- ---- what registers lead to

-- it is no isolate
abbrev pub IsOpen : Option Value → Type 0
IsOpen None = Unit {0}
IsOpen (Some v) = IsNoIso v

module _ (home : Homes) (hs : List Holder) (s : State) (ms : Marks) (regs : Registers) (fits : FitsAt home (in_registers ms regs hs) s) where
  -- an owner or an `&X` of the innermost depth leads to the innermost region
  pub leads_inside : (a : ℕ) (v : Value) → mark ms a ≡ Some (Held s.regions) → read regs a ≡ Some v → IsNoIso v → LeadsInside s v
  leads_inside a v m e plain n o name lives = at v plain name (reads_fit home hs s a (Held s.regions) v ms regs m e fits).1
    where
      at : (v : Value) → IsNoIso v → name_of v ≡ Some n → Within home s.world (Freeze s.regions) v → o.region ≡ Freeze s.regions
      at (Own k) p g x = let q : k ≡ n = cc in region_is s.world n o (Freeze s.regions) lives (subst (λ k. InRegion s.world k (Freeze s.regions)) q x)
      at (Ref k) p g (inr x) = let q : k ≡ n = cc in region_is s.world n o (Freeze s.regions) lives (subst (λ k. InRegion s.world k (Freeze s.regions)) q x)
      at (Ref k) p g (inl x) = let q : k ≡ n = cc in let z : slice_get s.world n ≡ Some None = subst (λ k. slice_get s.world k ≡ Some None) q x in let y : Some None ≡ Some (Some o) = sym z ∙ lives in let u : ⊥ = cc in absurd u
      at (Iso k) p g x = absurd p
      at (Int k) p g x = let u : ⊥ = cc in absurd u
      at (Truth k) p g x = let u : ⊥ = cc in absurd u
      at (Text k) p g x = let u : ⊥ = cc in absurd u

  -- what gives `&imm` by itself: an `&imm`, or what was written further out
  abbrev pub GivesSeen : How → Type 0
  GivesSeen (Held b) = b < s.regions
  GivesSeen (Seen b) = b ≤ s.regions
  GivesSeen Waits = ⊥

  pub sees_of : (how : How) (v : Value) → GivesSeen how → HowFits home s.world how v → Sees home s.world s.regions (lent v)
  sees_of (Held b) v le x = lent_seen home s.world s.regions (Freeze b) v le x
  sees_of (Seen b) v le x = lent v le x
    where
      lent : (v : Value) → b ≤ s.regions → Sees home s.world b v → Sees home s.world s.regions (Rattle.vale_state_spec.specs.State.lent v)
      lent (Own n) le x = absurd x
      lent (Ref n) le x = deeper_seen home s.world b s.regions (Ref n) le x
      lent (Iso n) le x = absurd x
      lent (Int n) le x = tt
      lent (Truth n) le x = tt
      lent (Text n) le x = tt
  sees_of Waits v le x = absurd le

  pub leads_below : (a : ℕ) (how : How) (v : Value) → mark ms a ≡ Some how → GivesSeen how → read regs a ≡ Some v → LeadsBelow home hs s s.regions v
  leads_below a how v m le e n o name lives = at v name (sees_of how v le (reads_fit home hs s a how v ms regs m e fits).1)
    where
      found : (k : ℕ) → k ≡ n → slice_get s.world k ≡ Some None ⊎ Below home s.world s.regions k → IsBelow home s.regions o.region
      found k q (inl x) = let z : slice_get s.world n ≡ Some None = subst (λ k. slice_get s.world k ≡ Some None) q x in let y : Some None ≡ Some (Some o) = sym z ∙ lives in let u : ⊥ = cc in absurd u
      found k q (inr b) =
          let z : slice_get s.world n ≡ Some (Some b.object) = subst (λ k. slice_get s.world k ≡ Some (Some b.object)) q b.lives in
          let y : Some (Some b.object) ≡ Some (Some o) = sym z ∙ lives in
          let u : b.object ≡ o = cc in subst (λ o. IsBelow home s.regions o.region) u b.below

      at : (v : Value) → name_of v ≡ Some n → Sees home s.world s.regions (lent v) → IsBelow home s.regions o.region
      at (Own k) g x = found k (let q : k ≡ n = cc in q) x
      at (Ref k) g x = found k (let q : k ≡ n = cc in q) x
      at (Iso k) g x = found k (let q : k ≡ n = cc in q) x
      at (Int k) g x = let u : ⊥ = cc in absurd u
      at (Truth k) g x = let u : ⊥ = cc in absurd u
      at (Text k) g x = let u : ⊥ = cc in absurd u

-- ---- instructions, where these values stand in the registers

one_is : (r : Around) (ms : Marks) (hs : List Holder) (s : State) (x : Option Value) (v : Value) (go : Value → Next) → x ≡ Some v → NextFits_ r ms hs (go v) → NextFits_ r ms hs (with_value x s go)
one_is r ms hs s x v go e h = subst (λ x. NextFits_ r ms hs (with_value x s go)) (sym e) h

two_are : (r : Around) (ms : Marks) (hs : List Holder) (s : State) (x y : Option Value) (v u : Value) (go : Value → Value → Next) → x ≡ Some v → y ≡ Some u → NextFits_ r ms hs (go v u)
    → NextFits_ r ms hs (with_value x s (λ v. with_value y s (λ u. go v u)))
two_are r ms hs s x y v u go e g h = one_is r ms hs s x v _ e (one_is r ms hs s y u _ g h)

owner_is : (r : Around) (ms : Marks) (hs : List Holder) (s : State) (x : Option Value) (n : ℕ) (go : ℕ → Next) → x ≡ Some (Own n) → NextFits_ r ms hs (go n) → NextFits_ r ms hs (with_owner x s go)
owner_is r ms hs s x n go e h = subst (λ x. NextFits_ r ms hs (with_owner x s go)) (sym e) h

choice_is : (r : Around) (ms : Marks) (hs : List Holder) (s : State) (x : Option Object) (o : Object) (go : Object → Next) → x ≡ Some o → NextFits_ r ms hs (go o) → NextFits_ r ms hs (with_choice x s go)
choice_is r ms hs s x o go e h = subst (λ x. NextFits_ r ms hs (with_choice x s go)) (sym e) h

registers_are : (r : Around) (ms : Marks) (hs : List Holder) (s : State) (x : Option Registers) (regs : Registers) (go : Registers → Next) → x ≡ Some regs → NextFits_ r ms hs (go regs) → NextFits_ r ms hs (with_registers x s go)
registers_are r ms hs s x regs go e h = subst (λ x. NextFits_ r ms hs (with_registers x s go)) (sym e) h

pub registers_lowered : (c : ℕ) (ms : Marks) (regs : Registers) (hs : List Holder) → lower_all c (in_registers ms regs hs) ≡ in_registers (lower_marks c ms) regs (lower_all c hs)
registers_lowered c [] regs hs = refl
registers_lowered c (m ∷ ms) [] hs = refl
registers_lowered c (m ∷ ms) (x ∷ regs) hs = at m x ∙ ap (in_register (mark_outside c m) x) (registers_lowered c ms regs hs)
  where
    at : (m : Option How) (x : Option Value) → lower_all c (in_register m x (in_registers ms regs hs)) ≡ in_register (mark_outside c m) x (lower_all c (in_registers ms regs hs))
    at None x = refl
    at (Some h) None = refl
    at (Some h) (Some v) = refl

-- at the end of a freeze so many are open as outside
thaw_at : (P : ℕ → ℕ → Type 0) (c r : ℕ) → r ≡ suc c → P (suc c) c → P r (r - 1)
thaw_at P c r e x = subst (λ r. P r (r - 1)) (sym e) (subst (P (suc c)) (let y : c ≡ suc c - 1 = omega arith in y) x)

module _ (code : Parts) (last : Config → State) (f : Active) (below : List Frame) (s : State) (home : Homes) (hs : List Holder) (ms : Marks) (fits : FitsAt home (in_registers ms f.registers hs) s) where
  -- so many are open after it
  abbrev at_depth : ℕ → Around
  at_depth d = record { function = f.function; dest = f.dest; place = f.place + 1; below = below; opened = d }

  abbrev r : Around
  r = at_depth s.regions

  -- ---- values and references

  pub int_next : (to : ℕ) (n : ℤ) → NextFits_ r (put_mark ms to (Some (Held s.regions))) hs (act code last f below s (i.Int to n))
  int_next to n = (home, give_fits home hs s to (Held s.regions) (Int n) ms f.registers (add_fits home hs s (Held s.regions) (Int n) _ (λ k. refl) (omega arith, tt) fits), refl, refl, refl, refl, refl)

  copies_to : (to : ℕ) (how : How) (v : Value) → ((n : ℕ) → own n v ≡ 0) → HolderFits home s.world s.regions (held_as how v) → NextFits_ r (put_mark ms to (Some how)) hs (onward f (put f.registers to (Some v)) below s)
  copies_to to how v none x = (home, give_fits home hs s to how v ms f.registers (add_fits home hs s how v _ none x fits), refl, refl, refl, refl, refl)

  -- a reference `&X` or a value of this depth
  pub copy_held_next : (to a : ℕ) (v : Value) → mark ms a ≡ Some (Held s.regions) → read f.registers a ≡ Some v → NextFits_ r (put_mark ms to (Some (Held s.regions))) hs (act code last f below s (i.Copy to a))
  copy_held_next to a v m e = one_is _ _ hs s _ v _ e (at v (reads_fit home hs s a (Held s.regions) v ms f.registers m e fits))
    where
      at : (v : Value) → HolderFits home s.world s.regions (held_as (Held s.regions) v) → NextFits_ r (put_mark ms to (Some (Held s.regions))) hs (gets f to (copied v) f.registers below s)
      at (Own n) x = tt
      at (Iso n) x = tt
      at (Ref n) x = copies_to to (Held s.regions) (Ref n) (λ k. refl) x
      at (Int n) x = copies_to to (Held s.regions) (Int n) (λ k. refl) x
      at (Truth n) x = copies_to to (Held s.regions) (Truth n) (λ k. refl) x
      at (Text n) x = copies_to to (Held s.regions) (Text n) (λ k. refl) x

  -- an `&imm` of any depth: the copy is one of this depth
  pub copy_seen_next : (to a b : ℕ) (v : Value) → mark ms a ≡ Some (Seen b) → b ≤ s.regions → read f.registers a ≡ Some v → NextFits_ r (put_mark ms to (Some (Seen s.regions))) hs (act code last f below s (i.Copy to a))
  copy_seen_next to a b v m le e = one_is _ _ hs s _ v _ e (at v (reads_fit home hs s a (Seen b) v ms f.registers m e fits).1)
    where
      at : (v : Value) → Sees home s.world b v → NextFits_ r (put_mark ms to (Some (Seen s.regions))) hs (gets f to (copied v) f.registers below s)
      at (Own n) x = tt
      at (Iso n) x = tt
      at (Ref n) x = copies_to to (Seen s.regions) (Ref n) (λ k. refl) (omega arith, deeper_seen home s.world b s.regions (Ref n) le x)
      at (Int n) x = copies_to to (Seen s.regions) (Int n) (λ k. refl) (omega arith, tt)
      at (Truth n) x = copies_to to (Seen s.regions) (Truth n) (λ k. refl) (omega arith, tt)
      at (Text n) x = copies_to to (Seen s.regions) (Text n) (λ k. refl) (omega arith, tt)

  pub move_next : (to a : ℕ) (v : Value) → mark ms a ≡ Some (Held s.regions) → read f.registers a ≡ Some v
      → NextFits_ r (put_mark (put_mark ms a None) to (Some (Held s.regions))) hs (act code last f below s (i.Move to a))
  move_next to a v m e = one_is _ _ hs s _ v _ e (at v e)
    where
      at : (v : Value) → read f.registers a ≡ Some v → NextFits_ r (put_mark (put_mark ms a None) to (Some (Held s.regions))) hs (gets f to (moved v) (put f.registers a None) below s)
      at (Own n) e = (home, give_fits home hs s to (Held s.regions) (Own n) _ _ (take_fits home hs s a (Held s.regions) (Own n) ms f.registers None m e fits), refl, refl, refl, refl, refl)
      at (Iso n) e = (home, give_fits home hs s to (Held s.regions) (Iso n) _ _ (take_fits home hs s a (Held s.regions) (Iso n) ms f.registers None m e fits), refl, refl, refl, refl, refl)
      at (Ref n) e = tt
      at (Int n) e = tt
      at (Truth n) e = tt
      at (Text n) e = tt

  pub borrow_next : (to a : ℕ) (v : Value) → mark ms a ≡ Some (Held s.regions) → read f.registers a ≡ Some v → NextFits_ r (put_mark ms to (Some (Held s.regions))) hs (act code last f below s (i.Borrow to a))
  borrow_next to a v m e = one_is _ _ hs s _ v _ e (at v (reads_fit home hs s a (Held s.regions) v ms f.registers m e fits))
    where
      at : (v : Value) → HolderFits home s.world s.regions (held_as (Held s.regions) v) → NextFits_ r (put_mark ms to (Some (Held s.regions))) hs (gets f to (borrowed v) f.registers below s)
      at (Own n) x = copies_to to (Held s.regions) (Ref n) (λ k. refl) (x.0, inr x.1)
      at (Iso n) x = tt
      at (Ref n) x = tt
      at (Int n) x = tt
      at (Truth n) x = tt
      at (Text n) x = tt

  pub frozen_next : (to a : ℕ) (how : How) (v : Value) → mark ms a ≡ Some how → GivesSeen home hs s ms f.registers fits how → read f.registers a ≡ Some v
      → NextFits_ r (put_mark ms to (Some (Seen s.regions))) hs (act code last f below s (i.Frozen to a))
  frozen_next to a how v m le e = one_is _ _ hs s _ v _ e (at v (sees_of home hs s ms f.registers fits how v le (reads_fit home hs s a how v ms f.registers m e fits).1))
    where
      at : (v : Value) → Sees home s.world s.regions (lent v) → NextFits_ r (put_mark ms to (Some (Seen s.regions))) hs (gets f to (as_frozen (name_of v)) f.registers below s)
      at (Own n) x = copies_to to (Seen s.regions) (Ref n) (λ k. refl) (omega arith, x)
      at (Iso n) x = copies_to to (Seen s.regions) (Ref n) (λ k. refl) (omega arith, x)
      at (Ref n) x = copies_to to (Seen s.regions) (Ref n) (λ k. refl) (omega arith, x)
      at (Int n) x = tt
      at (Truth n) x = tt
      at (Text n) x = tt

  pub upcast_held_next : (to a : ℕ) (kind : Rattle.vale_base.specs.declared.name.Kind.Kind) (v : Value) → mark ms a ≡ Some (Held s.regions) → read f.registers a ≡ Some v
      → NextFits_ r (put_mark (taken a v ms) to (Some (Held s.regions))) hs (act code last f below s (i.Upcast to a kind))
  upcast_held_next to a kind v m e = one_is _ _ hs s _ v _ e (at v e)
    where
      at : (v : Value) → read f.registers a ≡ Some v → NextFits_ r (put_mark (taken a v ms) to (Some (Held s.regions))) hs (gets f to (leading v) (kept_from a v f.registers) below s)
      at (Own n) e = (home, give_fits home hs s to (Held s.regions) (Own n) _ _ (keep_fits home hs s a (Held s.regions) (Own n) ms f.registers m e fits), refl, refl, refl, refl, refl)
      at (Iso n) e = (home, give_fits home hs s to (Held s.regions) (Iso n) _ _ (keep_fits home hs s a (Held s.regions) (Iso n) ms f.registers m e fits), refl, refl, refl, refl, refl)
      at (Ref n) e = (home, give_fits home hs s to (Held s.regions) (Ref n) _ _ (keep_fits home hs s a (Held s.regions) (Ref n) ms f.registers m e fits), refl, refl, refl, refl, refl)
      at (Int n) e = tt
      at (Truth n) e = tt
      at (Text n) e = tt

  pub upcast_seen_next : (to a b : ℕ) (kind : Kind) (v : Value) → mark ms a ≡ Some (Seen b) → b ≤ s.regions → read f.registers a ≡ Some v
      → NextFits_ r (put_mark ms to (Some (Seen s.regions))) hs (act code last f below s (i.Upcast to a kind))
  upcast_seen_next to a b kind v m le e = one_is _ _ hs s _ v _ e (at v (reads_fit home hs s a (Seen b) v ms f.registers m e fits).1)
    where
      at : (v : Value) → Sees home s.world b v → NextFits_ r (put_mark ms to (Some (Seen s.regions))) hs (gets f to (leading v) (kept_from a v f.registers) below s)
      at (Own n) x = absurd x
      at (Iso n) x = absurd x
      at (Ref n) x = copies_to to (Seen s.regions) (Ref n) (λ k. refl) (omega arith, deeper_seen home s.world b s.regions (Ref n) le x)
      at (Int n) x = tt
      at (Truth n) x = tt
      at (Text n) x = tt

  -- ---- reading

  -- a result that owns nothing comes into a register
  reads_seen : (to : ℕ) (v : Option Value) (t : State) → ReadSeen home hs s s.regions v t → NextFits_ r (put_mark ms to (Some (Seen s.regions))) hs (onward f (with_result (Some to) v f.registers) below t)
  reads_seen to None t q = absurd q
  reads_seen to (Some v) t q = subst (λ t. NextFits_ r (put_mark ms to (Some (Seen s.regions))) hs (onward f (put f.registers to (Some v)) below t)) (sym q.0) (copies_to to (Seen s.regions) v (none v q.1) (omega arith, q.1))
    where
      none : (v : Value) → Sees home s.world s.regions v → (n : ℕ) → own n v ≡ 0
      none (Own m) x n = absurd x
      none (Iso m) x n = absurd x
      none (Ref m) x n = refl
      none (Int m) x n = refl
      none (Truth m) x n = refl
      none (Text m) x n = refl

  -- through what gives `&imm` by itself
  pub load_seen_next : (to a field : ℕ) (at : Spot) (how : How) (v : Value) → mark ms a ≡ Some how → GivesSeen home hs s ms f.registers fits how → read f.registers a ≡ Some v
      → NextFits_ r (put_mark ms to (Some (Seen s.regions))) hs (act code last f below s (i.Load to a field at))
  load_seen_next to a field at how v m le e = one_is _ _ hs s _ v _ e
      (after_answer _ _ hs f below s (Some to) f.registers at _ _ (load_seen home (in_registers ms f.registers hs) s s.regions field v (leads_below home hs s ms f.registers fits a how v m le e) fits) (reads_seen to))

  pub load_live_next : (to a field : ℕ) (how : How) (v : Value) → mark ms a ≡ Some how → GivesSeen home hs s ms f.registers fits how → read f.registers a ≡ Some v
      → NextFits_ r (put_mark ms to (Some (Seen s.regions))) hs (act code last f below s (i.LoadLive to a field))
  load_live_next to a field how v m le e = one_is _ _ hs s _ v _ e
      (after_certain _ _ hs f below s (Some to) f.registers _ _ (load_seen home (in_registers ms f.registers hs) s s.regions field v (leads_below home hs s ms f.registers fits a how v m le e) fits) (reads_seen to))

  pub element_seen_next : (to a x : ℕ) (at : Spot) (how : How) (v u : Value) → mark ms a ≡ Some how → GivesSeen home hs s ms f.registers fits how → read f.registers a ≡ Some v → read f.registers x ≡ Some u
      → NextFits_ r (put_mark ms to (Some (Seen s.regions))) hs (act code last f below s (i.Elem to a x at))
  element_seen_next to a x at how v u m le e g = two_are _ _ hs s _ _ v u _ e g
      (after_answer _ _ hs f below s (Some to) f.registers at _ _ (element_seen home (in_registers ms f.registers hs) s s.regions v u (leads_below home hs s ms f.registers fits a how v m le e) fits) (reads_seen to))

  -- through an owner or an `&X` of this depth, where no isolate stands in the object
  reads_held : (to : ℕ) (v : Option Value) (t : State) → ReadHeld home hs s v t → NextFits_ r (put_mark ms to (Some (Held s.regions))) hs (onward f (with_result (Some to) v f.registers) below t)
  reads_held to None t q = absurd q
  reads_held to (Some v) t q = subst (λ t. NextFits_ r (put_mark ms to (Some (Held s.regions))) hs (onward f (put f.registers to (Some v)) below t)) (sym q.0) (copies_to to (Held s.regions) v q.2 (omega arith, q.1))

  pub load_own_next : (to a field n : ℕ) → mark ms a ≡ Some (Held s.regions) → read f.registers a ≡ Some (Own n) → CellsOpen home hs s (Own n)
      → NextFits_ r (put_mark ms to (Some (Held s.regions))) hs (act code last f below s (i.LoadOwn to a field))
  load_own_next to a field n m e open_ = owner_is _ _ hs s _ n _ e
      (after_certain _ _ hs f below s (Some to) f.registers _ _ (load_held home (in_registers ms f.registers hs) s field (Own n) (leads_inside home hs s ms f.registers fits a (Own n) m e tt) open_ fits) (reads_held to))

  pub load_held_next : (to a field : ℕ) (at : Spot) (v : Value) → mark ms a ≡ Some (Held s.regions) → IsNoIso v → read f.registers a ≡ Some v → CellsOpen home hs s v
      → NextFits_ r (put_mark ms to (Some (Held s.regions))) hs (act code last f below s (i.Load to a field at))
  load_held_next to a field at v m plain e open_ = one_is _ _ hs s _ v _ e
      (after_answer _ _ hs f below s (Some to) f.registers at _ _ (load_held home (in_registers ms f.registers hs) s field v (leads_inside home hs s ms f.registers fits a v m e plain) open_ fits) (reads_held to))

  pub element_own_next : (to a x n : ℕ) (at : Spot) (u : Value) → mark ms a ≡ Some (Held s.regions) → read f.registers a ≡ Some (Own n) → read f.registers x ≡ Some u → CellsOpen home hs s (Own n)
      → NextFits_ r (put_mark ms to (Some (Held s.regions))) hs (act code last f below s (i.ElemOwn to a x at))
  element_own_next to a x n at u m e g open_ = owner_is _ _ hs s _ n _ e (one_is _ _ hs s _ u _ g
      (after_answer _ _ hs f below s (Some to) f.registers at _ _
      (living_gives (ReadHeld home hs s) (element (Own n) u s) (element_held home (in_registers ms f.registers hs) s (Own n) u (leads_inside home hs s ms f.registers fits a (Own n) m e tt) open_ fits)) (reads_held to)))

  pub element_held_next : (to a x : ℕ) (at : Spot) (v u : Value) → mark ms a ≡ Some (Held s.regions) → IsNoIso v → read f.registers a ≡ Some v → read f.registers x ≡ Some u → CellsOpen home hs s v
      → NextFits_ r (put_mark ms to (Some (Held s.regions))) hs (act code last f below s (i.Elem to a x at))
  element_held_next to a x at v u m plain e g open_ = two_are _ _ hs s _ _ v u _ e g
      (after_answer _ _ hs f below s (Some to) f.registers at _ _ (element_held home (in_registers ms f.registers hs) s v u (leads_inside home hs s ms f.registers fits a v m e plain) open_ fits) (reads_held to))

  pub element_live_next : (to a x : ℕ) (at : Spot) (how : How) (v u : Value) → mark ms a ≡ Some how → GivesSeen home hs s ms f.registers fits how → read f.registers a ≡ Some v → read f.registers x ≡ Some u
      → NextFits_ r (put_mark ms to (Some (Seen s.regions))) hs (act code last f below s (i.ElemLive to a x at))
  element_live_next to a x at how v u m le e g = two_are _ _ hs s _ _ v u _ e g
      (after_answer _ _ hs f below s (Some to) f.registers at _ _
      (living_gives (ReadSeen home hs s s.regions) (element v u s) (element_seen home (in_registers ms f.registers hs) s s.regions v u (leads_below home hs s ms f.registers fits a how v m le e) fits)) (reads_seen to))

  -- ---- values that lead nowhere

  plain_comes : (to : ℕ) (v : Option Value) (t : State) → PlainOut s v t → NextFits_ r (put_mark ms to (Some (Held s.regions))) hs (onward f (with_result (Some to) v f.registers) below t)
  plain_comes to None t p = absurd p
  plain_comes to (Some v) t p = subst (λ t. NextFits_ r (put_mark ms to (Some (Held s.regions))) hs (onward f (put f.registers to (Some v)) below t)) (sym p.1)
      (copies_to to (Held s.regions) v (plain_owns v p.0) (omega arith, plain_held home s.world s.regions v p.0))

  -- what an operation answers, with a trap or without
  pub answers_next : (to : ℕ) (at : Spot) (a : Answer) → Gives (PlainOut s) a → NextFits_ r (put_mark ms to (Some (Held s.regions))) hs (answered f (Some to) f.registers at below s a)
  answers_next to at a p = after_answer _ _ hs f below s (Some to) f.registers at (PlainOut s) a p (plain_comes to)

  pub surely_next : (to : ℕ) (a : Answer) → Gives (PlainOut s) a → NextFits_ r (put_mark ms to (Some (Held s.regions))) hs (certain f (Some to) f.registers below s a)
  surely_next to a p = after_certain _ _ hs f below s (Some to) f.registers (PlainOut s) a p (plain_comes to)

  pub plain_next : (to : ℕ) (v : Value) → IsPlain v → NextFits_ r (put_mark ms to (Some (Held s.regions))) hs (onward f (put f.registers to (Some v)) below s)
  plain_next to v is = copies_to to (Held s.regions) v (plain_owns v is) (omega arith, plain_held home s.world s.regions v is)

  pub length_out : (v : Value) → Gives (PlainOut s) (array_length v s)
  length_out v = on_found (PlainOut s) v s _ (λ n o e l. (tt, refl))

  -- the registers stay
  pub stays_next : (t : State) → t.world ≡ s.world → t.regions ≡ s.regions → (p : ℕ) → NextFits_ (record { function = f.function; dest = f.dest; place = p; below = below; opened = s.regions }) ms hs (at_place f p below t)
  stays_next t w e p = (home, subst (λ v. Fits (scene home (in_registers ms f.registers hs) v t.regions)) (sym w) (subst (λ c. Fits (scene home (in_registers ms f.registers hs) s.world c)) (sym e) fits), refl, refl, refl, refl, e)

  -- ---- writing

  comes_out : (to : ℕ) (ns : Marks) (regs : Registers) (v : Option Value) (t : State) → ComesOut home s.regions (in_registers ns regs hs) v t → NextFits_ r (put_mark ns to (Some (Held s.regions))) hs (onward f (with_result (Some to) v regs) below t)
  comes_out to ns regs None t p = absurd p
  comes_out to ns regs (Some v) t p = (home, give_fits home hs t to (Held s.regions) v ns regs p.0, refl, refl, refl, refl, p.1)

  pub push_next : (a b : ℕ) (at : Spot) (v new : Value) → mark ms a ≡ Some (Held s.regions) → IsNoIso v → (mark ms b ≡ Some (Held s.regions)) ⊎ IsPlain new → read f.registers a ≡ Some v → read f.registers b ≡ Some new
      → NextFits_ r (taken b new ms) hs (act code last f below s (i.Push a b at))
  push_next a b at v new m plain k e g = two_are _ _ hs s _ _ v new _ e g
      (after_answer _ _ hs f below s None (kept_from b new f.registers) at _ _
      (push_fits home (in_registers (taken b new ms) (kept_from b new f.registers) hs) s v new (leads_inside home hs s ms f.registers fits a v m e plain) (store_fits home hs s b new ms f.registers k g fits))
      nothing)
    where
      nothing : (u : Option Value) (t : State) → NothingOut home s.regions (in_registers (taken b new ms) (kept_from b new f.registers) hs) u t → NextFits_ r (taken b new ms) hs (onward f (with_result None u (kept_from b new f.registers)) below t)
      nothing None t p = (home, p.0, refl, refl, refl, refl, p.1)
      nothing (Some u) t p = absurd p

  pub pop_next : (to a : ℕ) (at : Spot) (v : Value) → mark ms a ≡ Some (Held s.regions) → IsNoIso v → read f.registers a ≡ Some v
      → NextFits_ r (put_mark ms to (Some (Held s.regions))) hs (act code last f below s (i.Pop to a at))
  pop_next to a at v m plain e = one_is _ _ hs s _ v _ e
      (after_answer _ _ hs f below s (Some to) f.registers at _ _
      (pop_fits home (in_registers ms f.registers hs) s v (leads_inside home hs s ms f.registers fits a v m e plain) fits) (comes_out to ms f.registers))

  -- the object may be the value itself, which then owns itself
  pub swap_next : (to a field b : ℕ) (at : Spot) (v new : Value) → mark ms a ≡ Some (Held s.regions) → IsNoIso v → (mark ms b ≡ Some (Held s.regions)) ⊎ IsPlain new → read f.registers a ≡ Some v → read f.registers b ≡ Some new
      → NextFits_ r (put_mark (taken b new ms) to (Some (Held s.regions))) hs (act code last f below s (i.Swap to a field b at))
  swap_next to a field b at v new m plain k e g = two_are _ _ hs s _ _ v new _ e g
      (after_answer _ _ hs f below s (Some to) (kept_from b new f.registers) at _ _
      (swap_fits home (in_registers (taken b new ms) (kept_from b new f.registers) hs) s field v new (leads_inside home hs s ms f.registers fits a v m e plain) (store_fits home hs s b new ms f.registers k g fits))
      (comes_out to (taken b new ms) (kept_from b new f.registers)))

  pub swap_own_next : (to a field b n : ℕ) (new : Value) → mark ms a ≡ Some (Held s.regions) → (mark ms b ≡ Some (Held s.regions)) ⊎ IsPlain new → read f.registers a ≡ Some (Own n) → read f.registers b ≡ Some new
      → NextFits_ r (put_mark (taken b new ms) to (Some (Held s.regions))) hs (act code last f below s (i.SwapOwn to a field b))
  swap_own_next to a field b n new m k e g = owner_is _ _ hs s _ n _ e (one_is _ _ hs s _ new _ g
      (after_certain _ _ hs f below s (Some to) (kept_from b new f.registers) _ _
      (swap_fits home (in_registers (taken b new ms) (kept_from b new f.registers) hs) s field (Own n) new (leads_inside home hs s ms f.registers fits a (Own n) m e tt) (store_fits home hs s b new ms f.registers k g fits))
      (comes_out to (taken b new ms) (kept_from b new f.registers))))

  pub swap_element_next : (to a x b : ℕ) (at : Spot) (v u new : Value) → mark ms a ≡ Some (Held s.regions) → IsNoIso v → (mark ms b ≡ Some (Held s.regions)) ⊎ IsPlain new
      → read f.registers a ≡ Some v → read f.registers x ≡ Some u → read f.registers b ≡ Some new
      → NextFits_ r (put_mark (taken b new ms) to (Some (Held s.regions))) hs (act code last f below s (i.SwapEl to a x b at))
  swap_element_next to a x b at v u new m plain k e d g = one_is _ _ hs s _ v _ e (two_are _ _ hs s _ _ u new _ d g
      (after_answer _ _ hs f below s (Some to) (kept_from b new f.registers) at _ _
      (swap_element_fits home (in_registers (taken b new ms) (kept_from b new f.registers) hs) s v u new (leads_inside home hs s ms f.registers fits a v m e plain) (store_fits home hs s b new ms f.registers k g fits))
      (comes_out to (taken b new ms) (kept_from b new f.registers))))

  pub swap_element_own_next : (to a x b n : ℕ) (at : Spot) (u new : Value) → mark ms a ≡ Some (Held s.regions) → (mark ms b ≡ Some (Held s.regions)) ⊎ IsPlain new
      → read f.registers a ≡ Some (Own n) → read f.registers x ≡ Some u → read f.registers b ≡ Some new
      → NextFits_ r (put_mark (taken b new ms) to (Some (Held s.regions))) hs (act code last f below s (i.SwapElOwn to a x b at))
  swap_element_own_next to a x b n at u new m k e d g = owner_is _ _ hs s _ n _ e (two_are _ _ hs s _ _ u new _ d g
      (after_answer _ _ hs f below s (Some to) (kept_from b new f.registers) at _ _
      (living_gives (ComesOut home s.regions (in_registers (taken b new ms) (kept_from b new f.registers) hs)) (swap_element (Own n) u new s) (swap_element_fits home (in_registers (taken b new ms) (kept_from b new f.registers) hs) s (Own n) u new (leads_inside home hs s ms f.registers fits a (Own n) m e tt) (store_fits home hs s b new ms f.registers k g fits)))
      (comes_out to (taken b new ms) (kept_from b new f.registers))))

  -- ---- isolates and freezes

  pub merge_next : (to a n : ℕ) → mark ms a ≡ Some (Held s.regions) → read f.registers a ≡ Some (Iso n)
      → NextFits_ r (put_mark (put_mark ms a None) to (Some (Held s.regions))) hs (act code last f below s (i.Merge to a))
  merge_next to a n m e = one_is _ _ hs s _ (Iso n) _ e
      (after_certain _ _ hs f below s (Some to) (put f.registers a None) _ (merge (Iso n) s)
      (merge_fits home (in_registers (put_mark ms a None) (put f.registers a None) hs) s n (take_fits home hs s a (Held s.regions) (Iso n) ms f.registers None m e fits))
      (comes_out to (put_mark ms a None) (put f.registers a None)))

  -- ---- objects are made and taken apart

  ticked_next : (ns : Marks) (gs : List Holder) (n : ℕ) (go : State → Next) → ((u : State) → u.world ≡ s.world → u.regions ≡ s.regions → NextFits_ r ns gs (go u)) → NextFits_ r ns gs (ticked (spend_of n s) s go)
  ticked_next ns gs zero go each = tt
  ticked_next ns gs (suc n) go each = each (record s { left = n; spent = s.spent + 1 }) refl refl

  pub opened_next : (to : List ℕ) (a n : ℕ) (o : Object) (regs : Registers) (ns : Marks) → mark ms a ≡ Some (Held s.regions) → read f.registers a ≡ Some (Own n) → object_of n s ≡ Some o
      → put_all to o.values (put f.registers a None) ≡ Some regs
      → ((t : State) → FitsAt home (holding_all s.regions o.values (in_registers (put_mark ms a None) (put f.registers a None) hs)) t → FitsAt home (in_registers ns regs hs) t)
      → NextFits_ r ns hs (act code last f below s (i.Open to a))
  opened_next to a n o regs ns m e g p put_them = owner_is _ _ hs s _ n _ e (choice_is _ ns hs s (object_of n s) o _ g (registers_are _ ns hs s _ regs _ p (ticked_next ns hs s.left _ (λ u w e.
      (home, put_them (dies n u) (there u w e), refl, refl, refl, refl, e)))))
    where
      there : (u : State) → u.world ≡ s.world → u.regions ≡ s.regions → FitsAt home (holding_all s.regions o.values (in_registers (put_mark ms a None) (put f.registers a None) hs)) (dies n u)
      there u w e' =
          let x = dies_fits home (in_registers (put_mark ms a None) (put f.registers a None) hs) s n o g (take_fits home hs s a (Held s.regions) (Own n) ms f.registers None m e fits) in
          subst (λ v. Fits (scene home (holding_all s.regions o.values (in_registers (put_mark ms a None) (put f.registers a None) hs)) (Rattle.vale_state_spec.specs.World.died v n) u.regions)) (sym w)
          (subst (λ c. Fits (scene home (holding_all s.regions o.values (in_registers (put_mark ms a None) (put f.registers a None) hs)) (Rattle.vale_state_spec.specs.World.died s.world n) c)) (sym e') x)

  -- ---- freezes

  pub freeze_next : (at : Spot) → NextFits_ (at_depth (suc s.regions)) ms hs (act code last f below s (i.Freeze at))
  freeze_next at = open_or_trap (has_depth 1 (under (Running f ∷ below)) s)
    where
      more : suc s.regions ≡ s.regions + 1
      more = omega arith

      open_or_trap : (b : Bool) → NextFits_ (at_depth (suc s.regions)) ms hs (if b then onward f f.registers below (freeze s) else trap Rattle.vale_base.specs.declared.trap.TrapKind.TheVariants.CallDepth at (Running f ∷ below) s)
      open_or_trap true = (home, subst (λ c. Fits (scene home (in_registers ms f.registers hs) s.world c)) more (opens_fits home (in_registers ms f.registers hs) s.world s.regions fits), refl, refl, refl, refl, sym more)
      open_or_trap false = tt

  module _ (d : ℕ) (e : s.regions ≡ suc d) where
    inner : (a : ℕ) (v : Value) → mark ms a ≡ Some (Held s.regions) → read f.registers a ≡ Some v → Fits (scene home (holding (suc d) v ∷ in_registers (put_mark ms a None) (put f.registers a None) hs) s.world (suc d))
    inner a v m g = subst (λ c. Fits (scene home (holding c v ∷ in_registers (put_mark ms a None) (put f.registers a None) hs) s.world c)) e (take_fits home hs s a (Held s.regions) v ms f.registers None m g fits)

    so_many : s.regions - 1 ≡ d
    so_many = let y = e in omega (arith, y)

    pub thaw_merge_next : (to a n : ℕ) → mark ms a ≡ Some (Held s.regions) → read f.registers a ≡ Some (Own n)
        → Each (Leaves d) (in_registers (put_mark ms a None) (put f.registers a None) hs)
        → NextFits_ (at_depth d) (put_mark (lower_marks d (put_mark ms a None)) to (Some (Held d))) (lower_all d hs) (act code last f below s (i.ThawMerge to a))
    thaw_merge_next to a n m g leave = owner_is _ _ (lower_all d hs) s _ n _ g (
      lowered_home d home,
      give_fits (lowered_home d home) (lower_all d hs) (thaw merged s) to (Held d) (Own n) (lower_marks d (put_mark ms a None)) (put f.registers a None)
          (thaw_at (λ r c. Fits (scene (lowered_home d home) (holding d (Own n) ∷ in_registers (lower_marks d (put_mark ms a None)) (put f.registers a None) (lower_all d hs)) (relabelled (Freeze r) (Freeze c) s.world) c)) d s.regions e
          (subst (λ gs. Fits (scene (lowered_home d home) (holding d (Own n) ∷ gs) (relabelled (Freeze (suc d)) (Freeze d) s.world) d)) (registers_lowered d (put_mark ms a None) (put f.registers a None) hs)
          (merged_fits home (in_registers (put_mark ms a None) (put f.registers a None) hs) s.world d n leave (inner a (Own n) m g)))),
      refl,
      refl,
      refl,
      refl,
      so_many,
    )

    pub thaw_keep_next : (to a n : ℕ) → mark ms a ≡ Some (Held s.regions) → read f.registers a ≡ Some (Own n)
        → Each (Leaves d) (in_registers (put_mark ms a None) (put f.registers a None) hs) → HoldsNoIso s.world (Freeze (suc d))
        → NextFits_ (at_depth d) (put_mark (lower_marks d (put_mark ms a None)) to (Some (Held d))) (lower_all d hs) (act code last f below s (i.ThawKeep to a))
    thaw_keep_next to a n m g leave flat = owner_is _ _ (lower_all d hs) s _ n _ g (
      kept_home n d home,
      give_fits (kept_home n d home) (lower_all d hs) (thaw (kept n) s) to (Held d) (Iso n) (lower_marks d (put_mark ms a None)) (put f.registers a None)
          (thaw_at (λ r c. Fits (scene (kept_home n d home) (holding d (Iso n) ∷ in_registers (lower_marks d (put_mark ms a None)) (put f.registers a None) (lower_all d hs)) (relabelled (Freeze r) (Isolate n) s.world) c)) d s.regions e
          (subst (λ gs. Fits (scene (kept_home n d home) (holding d (Iso n) ∷ gs) (relabelled (Freeze (suc d)) (Isolate n) s.world) d)) (registers_lowered d (put_mark ms a None) (put f.registers a None) hs)
          (kept_fits home (in_registers (put_mark ms a None) (put f.registers a None) hs) s.world d n leave (inner a (Own n) m g) flat))),
      refl,
      refl,
      refl,
      refl,
      so_many,
    )

    pub thaw_clear_next : Each (Leaves d) (in_registers ms f.registers hs) → NextFits_ (at_depth d) (lower_marks d ms) (lower_all d hs) (act code last f below s i.ThawClear)
    thaw_clear_next leave = (
      lowered_home d home,
      thaw_at (λ r c. Fits (scene (lowered_home d home) (in_registers (lower_marks d ms) f.registers (lower_all d hs)) (Rattle.vale_state_spec.specs.World.cleared (Freeze r) s.world) c)) d s.regions e
          (subst (λ gs. Fits (scene (lowered_home d home) gs (Rattle.vale_state_spec.specs.World.cleared (Freeze (suc d)) s.world) d)) (registers_lowered d ms f.registers hs)
          (cleared_fits home (in_registers ms f.registers hs) s.world d leave (subst (λ c. Fits (scene home (in_registers ms f.registers hs) s.world c)) e fits))),
      refl,
      refl,
      refl,
      refl,
      so_many,
    )
