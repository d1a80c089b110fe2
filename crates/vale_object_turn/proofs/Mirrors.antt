-- What an instruction leads to is what its step comes to.
use Rattle.std.proofs.Common.{◌≡◌, ℕ, List, Option, Some, None, refl, subst}
use Rattle.vale_base.specs.declared.name.Kind.{Kind}
use Rattle.vale_base.specs.declared.spot.Spot.{Spot}
use Rattle.vale_base.specs.declared.trap.TrapKind.{TrapKind}
use Rattle.vale_base.specs.declared.trap.TrapKind.TheVariants.{DeadReference}
use Rattle.vale_state_spec.specs.State.{Answer, State, element, fails, gives, load, name_of, pop, push, swap, swap_element, traps}
use Rattle.vale_state_spec.specs.World.{Value, Int, Truth, Text, Own, Ref, Iso}
use Rattle.vale_code.specs.Act.{act}
use Rattle.vale_code.specs.Frames.{Active, Config, Frame, Next}
use Rattle.vale_code.specs.Instructions.{answered, array_length, borrowed, certain, gets, leading, moved, of_living, with_owner, with_value}
use Rattle.vale_code.specs.Parts.{Parts}
use Rattle.vale_code.specs.Registers.{Registers, after_keeping, as_frozen, kept, put, read}
use Rattle.vale_code.specs.declared.instr.Instr.{Instr}
use Rattle.vale_code.specs.declared.instr.Instr.TheVariants as i
use Rattle.vale_turn.specs.View as turn
use Rattle.vale_object_steps.specs.Doing.{Doing, counts, exchanges, freezes, given, loads, moves, on_value, pops, pushes, reads, swaps, widens}
use Rattle.vale_object_steps.specs.Views.{IsRight}

-- where a rule gives the step, the instruction's is that of `d`
pub record Mirrored (next : Next) (f : Active) (at : Spot) (below : List Frame) (s : State) (d : Doing) : Type 0 where
  pub right : IsRight d.answer
  pub is : next ≡ answered f d.to d.after at below s d.answer

abbrev pub Mirrors : Instr → (Registers → State → Doing) → Spot → Type 0
Mirrors instr step at =
    (code : Parts) (last : Config → State) (f : Active) (below : List Frame) (s : State) → turn.IsRight (act code last f below s instr) → Mirrored (act code last f below s instr) f at below s (step f.registers s)

-- the same of an instruction that has no trap
pub record Surely (next : Next) (f : Active) (below : List Frame) (s : State) (d : Doing) : Type 0 where
  pub right : IsRight d.answer
  pub is : (at : Spot) → next ≡ answered f d.to d.after at below s d.answer
  pub no_trap : (kind : TrapKind) → d.answer ≡ traps kind → ⊥

abbrev pub MirrorsSurely : Instr → (Registers → State → Doing) → Type 0
MirrorsSurely instr step =
    (code : Parts) (last : Config → State) (f : Active) (below : List Frame) (s : State) → turn.IsRight (act code last f below s instr) → Surely (act code last f below s instr) f below s (step f.registers s)

pub answered_right : (f : Active) (to : Option ℕ) (regs : Registers) (at : Spot) (below : List Frame) (s : State) (a : Answer) → turn.IsRight (answered f to regs at below s a) → IsRight a
answered_right f to regs at below s (gives v t) r = tt
answered_right f to regs at below s (traps kind) r = tt
answered_right f to regs at below s fails r = absurd r

mirrored : (next : Next) (f : Active) (at : Spot) (below : List Frame) (s : State) (d : Doing) → next ≡ answered f d.to d.after at below s d.answer → turn.IsRight next → Mirrored next f at below s d
mirrored next f at below s d is right = record { right = answered_right f d.to d.after at below s d.answer (subst turn.IsRight is right); is = is }

-- an answer that has no trap
record Given (f : Active) (to : Option ℕ) (regs : Registers) (below : List Frame) (s : State) (next : Next) (a : Answer) : Type 0 where
  right : IsRight a
  is : (at : Spot) → next ≡ answered f to regs at below s a
  no_trap : (kind : TrapKind) → a ≡ traps kind → ⊥

module _ (f : Active) (to : Option ℕ) (regs : Registers) (below : List Frame) (s : State) where
  certain_is : (a : Answer) → turn.IsRight (certain f to regs below s a) → Given f to regs below s (certain f to regs below s a) a
  certain_is (gives v t) r = record { right = tt; is = λ at. refl; no_trap = λ kind e. let x : ⊥ = cc in x }
  certain_is (traps kind) r = absurd r
  certain_is fails r = absurd r

  -- of a value, of an owner
  on_one : (at : Spot) (o : Option Value) (go : Value → Answer) → with_value o s (λ v. answered f to regs at below s (go v)) ≡ answered f to regs at below s (on_value o go)
  on_one at None go = refl
  on_one at (Some v) go = refl

  on_one_surely : (o : Option Value) (go : Value → Answer) → turn.IsRight (with_value o s (λ v. certain f to regs below s (go v))) → Given f to regs below s (with_value o s (λ v. certain f to regs below s (go v))) (on_value o go)
  on_one_surely None go r = absurd r
  on_one_surely (Some v) go r = certain_is (go v) r

  on_owner_surely : (o : Option Value) (go : Value → Answer) → turn.IsRight (with_owner o s (λ n. certain f to regs below s (go (Own n)))) → Given f to regs below s (with_owner o s (λ n. certain f to regs below s (go (Own n)))) (on_value o go)
  on_owner_surely None go r = absurd r
  on_owner_surely (Some (Own n)) go r = certain_is (go (Own n)) r
  on_owner_surely (Some (Int z)) go r = absurd r
  on_owner_surely (Some (Truth z)) go r = absurd r
  on_owner_surely (Some (Text z)) go r = absurd r
  on_owner_surely (Some (Ref z)) go r = absurd r
  on_owner_surely (Some (Iso z)) go r = absurd r

  on_two : (at : Spot) (p q : Option Value) (go : Value → Value → Answer) → with_value p s (λ v. with_value q s (λ u. answered f to regs at below s (go v u))) ≡ answered f to regs at below s (on_value q (λ u. on_value p (λ v. go v u)))
  on_two at None None go = refl
  on_two at None (Some u) go = refl
  on_two at (Some v) None go = refl
  on_two at (Some v) (Some u) go = refl

  -- an object that is known to live
  living_is : (at : Spot) (a : Answer) → turn.IsRight (answered f to regs at below s (of_living a)) → answered f to regs at below s (of_living a) ≡ answered f to regs at below s a
  living_is at (gives v t) r = refl
  living_is at (traps DeadReference) r = absurd r
  living_is at (traps kind) r = refl
  living_is at fails r = refl

  on_two_living : (at : Spot) (p q : Option Value) (go : Value → Value → Answer) → turn.IsRight (with_value p s (λ v. with_value q s (λ u. answered f to regs at below s (of_living (go v u)))))
      → with_value p s (λ v. with_value q s (λ u. answered f to regs at below s (of_living (go v u)))) ≡ answered f to regs at below s (on_value q (λ u. on_value p (λ v. go v u)))
  on_two_living at None None go r = refl
  on_two_living at None (Some u) go r = refl
  on_two_living at (Some v) None go r = refl
  on_two_living at (Some v) (Some u) go r = living_is at (go v u) r

  on_owner_living : (at : Spot) (p q : Option Value) (go : Value → Value → Answer) → turn.IsRight (with_owner p s (λ n. with_value q s (λ u. answered f to regs at below s (of_living (go (Own n) u)))))
      → with_owner p s (λ n. with_value q s (λ u. answered f to regs at below s (of_living (go (Own n) u)))) ≡ answered f to regs at below s (on_value q (λ u. on_value p (λ v. go v u)))
  on_owner_living at None q go r = absurd r
  on_owner_living at (Some (Own n)) None go r = refl
  on_owner_living at (Some (Own n)) (Some u) go r = living_is at (go (Own n) u) r
  on_owner_living at (Some (Int z)) q go r = absurd r
  on_owner_living at (Some (Truth z)) q go r = absurd r
  on_owner_living at (Some (Text z)) q go r = absurd r
  on_owner_living at (Some (Ref z)) q go r = absurd r
  on_owner_living at (Some (Iso z)) q go r = absurd r

-- steps that keep the value of a register
module _ (f : Active) (to : Option ℕ) (b : ℕ) (regs : Registers) (below : List Frame) (s : State) where
  abbrev keeps : Spot → Value → Answer → Next
  keeps at w a = answered f to (kept b w regs) at below s a

  on_two_keeping : (at : Spot) (p q : Option Value) (go : Value → Value → Answer) → with_value p s (λ v. with_value q s (λ w. keeps at w (go v w))) ≡ answered f to (after_keeping b q regs) at below s (on_value q (λ w. on_value p (λ v. go v w)))
  on_two_keeping at None None go = refl
  on_two_keeping at None (Some w) go = refl
  on_two_keeping at (Some v) None go = refl
  on_two_keeping at (Some v) (Some w) go = refl

  on_owner_keeping_surely : (p q : Option Value) (go : Value → Value → Answer) → turn.IsRight (with_owner p s (λ n. with_value q s (λ w. certain f to (kept b w regs) below s (go (Own n) w))))
      → Given f to (after_keeping b q regs) below s (with_owner p s (λ n. with_value q s (λ w. certain f to (kept b w regs) below s (go (Own n) w)))) (on_value q (λ w. on_value p (λ v. go v w)))
  on_owner_keeping_surely None q go r = absurd r
  on_owner_keeping_surely (Some (Own n)) None go r = absurd r
  on_owner_keeping_surely (Some (Own n)) (Some w) go r = certain_is f to (kept b w regs) below s (go (Own n) w) r
  on_owner_keeping_surely (Some (Int z)) q go r = absurd r
  on_owner_keeping_surely (Some (Truth z)) q go r = absurd r
  on_owner_keeping_surely (Some (Text z)) q go r = absurd r
  on_owner_keeping_surely (Some (Ref z)) q go r = absurd r
  on_owner_keeping_surely (Some (Iso z)) q go r = absurd r

  on_three_keeping : (at : Spot) (p x q : Option Value) (go : Value → Value → Value → Answer)
      → with_value p s (λ v. with_value x s (λ u. with_value q s (λ w. keeps at w (go v u w)))) ≡ answered f to (after_keeping b q regs) at below s (on_value x (λ u. on_value q (λ w. on_value p (λ v. go v u w))))
  on_three_keeping at None None None go = refl
  on_three_keeping at None None (Some w) go = refl
  on_three_keeping at None (Some u) None go = refl
  on_three_keeping at None (Some u) (Some w) go = refl
  on_three_keeping at (Some v) None None go = refl
  on_three_keeping at (Some v) None (Some w) go = refl
  on_three_keeping at (Some v) (Some u) None go = refl
  on_three_keeping at (Some v) (Some u) (Some w) go = refl

  on_owner_keeping_living : (at : Spot) (p x q : Option Value) (go : Value → Value → Value → Answer) → turn.IsRight (with_owner p s (λ n. with_value x s (λ u. with_value q s (λ w. keeps at w (of_living (go (Own n) u w))))))
      → with_owner p s (λ n. with_value x s (λ u. with_value q s (λ w. keeps at w (of_living (go (Own n) u w))))) ≡ answered f to (after_keeping b q regs) at below s (on_value x (λ u. on_value q (λ w. on_value p (λ v. go v u w))))
  on_owner_keeping_living at None x q go r = absurd r
  on_owner_keeping_living at (Some (Own n)) None q go r = absurd r
  on_owner_keeping_living at (Some (Own n)) (Some u) None go r = refl
  on_owner_keeping_living at (Some (Own n)) (Some u) (Some w) go r = living_is f to (kept b w regs) below s at (go (Own n) u w) r
  on_owner_keeping_living at (Some (Int z)) x q go r = absurd r
  on_owner_keeping_living at (Some (Truth z)) x q go r = absurd r
  on_owner_keeping_living at (Some (Text z)) x q go r = absurd r
  on_owner_keeping_living at (Some (Ref z)) x q go r = absurd r
  on_owner_keeping_living at (Some (Iso z)) x q go r = absurd r

-- ---- owners and references that go from register to register

module _ (f : Active) (to : ℕ) (below : List Frame) (s : State) where
  gets_given : (regs : Registers) (o : Option Value) → turn.IsRight (gets f to o regs below s) → Given f (Some to) regs below s (gets f to o regs below s) (given o s)
  gets_given regs None r = absurd r
  gets_given regs (Some v) r = record { right = tt; is = λ at. refl; no_trap = λ kind e. let x : ⊥ = cc in x }

  gets_one : (regs : Registers) (o : Option Value) (go : Value → Option Value) → turn.IsRight (with_value o s (λ v. gets f to (go v) regs below s)) → Given f (Some to) regs below s (with_value o s (λ v. gets f to (go v) regs below s)) (on_value o (λ v. given (go v) s))
  gets_one regs None go r = absurd r
  gets_one regs (Some v) go r = gets_given regs (go v) r

  gets_borrowed : (regs : Registers) (o : Option Value) → turn.IsRight (with_value o s (λ v. gets f to (borrowed v) regs below s)) → Given f (Some to) regs below s (with_value o s (λ v. gets f to (borrowed v) regs below s)) (on_value o (λ v. given (as_frozen (name_of v)) s))
  gets_borrowed regs None r = absurd r
  gets_borrowed regs (Some (Own n)) r = gets_given regs (Some (Ref n)) r
  gets_borrowed regs (Some (Int z)) r = absurd r
  gets_borrowed regs (Some (Truth z)) r = absurd r
  gets_borrowed regs (Some (Text z)) r = absurd r
  gets_borrowed regs (Some (Ref z)) r = absurd r
  gets_borrowed regs (Some (Iso z)) r = absurd r

  gets_kept : (a : ℕ) (regs : Registers) (o : Option Value) → turn.IsRight (with_value o s (λ v. gets f to (leading v) (kept a v regs) below s))
      → Given f (Some to) (after_keeping a o regs) below s (with_value o s (λ v. gets f to (leading v) (kept a v regs) below s)) (on_value o (λ v. given (leading v) s))
  gets_kept a regs None r = absurd r
  gets_kept a regs (Some v) r = gets_given (kept a v regs) (leading v) r

surely : (next : Next) (f : Active) (below : List Frame) (s : State) (d : Doing) → Given f d.to d.after below s next d.answer → Surely next f below s d
surely next f below s d g = record { right = g.right; is = g.is; no_trap = g.no_trap }

-- ---- the instructions

pub move_mirrors : (to a : ℕ) → MirrorsSurely (i.Move to a) (moves to a)
move_mirrors to a code last f below s r = surely (act code last f below s (i.Move to a)) f below s (moves to a f.registers s) (gets_one f to below s (put f.registers a None) (read f.registers a) moved r)

pub borrow_mirrors : (to a : ℕ) → MirrorsSurely (i.Borrow to a) (freezes to a)
borrow_mirrors to a code last f below s r = surely (act code last f below s (i.Borrow to a)) f below s (freezes to a f.registers s) (gets_borrowed f to below s f.registers (read f.registers a) r)

pub frozen_mirrors : (to a : ℕ) → MirrorsSurely (i.Frozen to a) (freezes to a)
frozen_mirrors to a code last f below s r = surely (act code last f below s (i.Frozen to a)) f below s (freezes to a f.registers s) (gets_one f to below s f.registers (read f.registers a) (λ v. as_frozen (name_of v)) r)

pub upcast_mirrors : (to a : ℕ) (kind : Kind) → MirrorsSurely (i.Upcast to a kind) (widens to a)
upcast_mirrors to a kind code last f below s r = surely (act code last f below s (i.Upcast to a kind)) f below s (widens to a f.registers s) (gets_kept f to below s a f.registers (read f.registers a) r)

pub load_own_mirrors : (to a field : ℕ) → MirrorsSurely (i.LoadOwn to a field) (loads to a field)
load_own_mirrors to a field code last f below s r = surely (act code last f below s (i.LoadOwn to a field)) f below s (loads to a field f.registers s) (on_owner_surely f (Some to) f.registers below s (read f.registers a) (λ v. load field v s) r)

pub load_mirrors : (to a field : ℕ) (at : Spot) → Mirrors (i.Load to a field at) (loads to a field) at
load_mirrors to a field at code last f below s r = mirrored (act code last f below s (i.Load to a field at)) f at below s (loads to a field f.registers s) (on_one f (Some to) f.registers below s at (read f.registers a) (λ v. load field v s)) r

pub load_live_mirrors : (to a field : ℕ) → MirrorsSurely (i.LoadLive to a field) (loads to a field)
load_live_mirrors to a field code last f below s r = surely (act code last f below s (i.LoadLive to a field)) f below s (loads to a field f.registers s) (on_one_surely f (Some to) f.registers below s (read f.registers a) (λ v. load field v s) r)

pub elem_own_mirrors : (to a x : ℕ) (at : Spot) → Mirrors (i.ElemOwn to a x at) (reads to a x) at
elem_own_mirrors to a x at code last f below s r = mirrored (act code last f below s (i.ElemOwn to a x at)) f at below s (reads to a x f.registers s) (on_owner_living f (Some to) f.registers below s at (read f.registers a) (read f.registers x) (λ v u. element v u s) r) r

pub elem_mirrors : (to a x : ℕ) (at : Spot) → Mirrors (i.Elem to a x at) (reads to a x) at
elem_mirrors to a x at code last f below s r = mirrored (act code last f below s (i.Elem to a x at)) f at below s (reads to a x f.registers s) (on_two f (Some to) f.registers below s at (read f.registers a) (read f.registers x) (λ v u. element v u s)) r

pub elem_live_mirrors : (to a x : ℕ) (at : Spot) → Mirrors (i.ElemLive to a x at) (reads to a x) at
elem_live_mirrors to a x at code last f below s r = mirrored (act code last f below s (i.ElemLive to a x at)) f at below s (reads to a x f.registers s) (on_two_living f (Some to) f.registers below s at (read f.registers a) (read f.registers x) (λ v u. element v u s) r) r

pub len_mirrors : (to a : ℕ) (at : Spot) → Mirrors (i.Len to a at) (counts to a) at
len_mirrors to a at code last f below s r = mirrored (act code last f below s (i.Len to a at)) f at below s (counts to a f.registers s) (on_one f (Some to) f.registers below s at (read f.registers a) (λ v. array_length v s)) r

pub len_live_mirrors : (to a : ℕ) → MirrorsSurely (i.LenLive to a) (counts to a)
len_live_mirrors to a code last f below s r = surely (act code last f below s (i.LenLive to a)) f below s (counts to a f.registers s) (on_one_surely f (Some to) f.registers below s (read f.registers a) (λ v. array_length v s) r)

pub swap_own_mirrors : (to a field b : ℕ) → MirrorsSurely (i.SwapOwn to a field b) (swaps to a field b)
swap_own_mirrors to a field b code last f below s r = surely (act code last f below s (i.SwapOwn to a field b)) f below s (swaps to a field b f.registers s) (on_owner_keeping_surely f (Some to) b f.registers below s (read f.registers a) (read f.registers b) (λ v w. swap field v w s) r)

pub swap_mirrors : (to a field b : ℕ) (at : Spot) → Mirrors (i.Swap to a field b at) (swaps to a field b) at
swap_mirrors to a field b at code last f below s r = mirrored (act code last f below s (i.Swap to a field b at)) f at below s (swaps to a field b f.registers s) (on_two_keeping f (Some to) b f.registers below s at (read f.registers a) (read f.registers b) (λ v w. swap field v w s)) r

pub swap_el_own_mirrors : (to a x b : ℕ) (at : Spot) → Mirrors (i.SwapElOwn to a x b at) (exchanges to a x b) at
swap_el_own_mirrors to a x b at code last f below s r = mirrored (act code last f below s (i.SwapElOwn to a x b at)) f at below s (exchanges to a x b f.registers s) (on_owner_keeping_living f (Some to) b f.registers below s at (read f.registers a) (read f.registers x) (read f.registers b) (λ v u w. swap_element v u w s) r) r

pub swap_el_mirrors : (to a x b : ℕ) (at : Spot) → Mirrors (i.SwapEl to a x b at) (exchanges to a x b) at
swap_el_mirrors to a x b at code last f below s r = mirrored (act code last f below s (i.SwapEl to a x b at)) f at below s (exchanges to a x b f.registers s) (on_three_keeping f (Some to) b f.registers below s at (read f.registers a) (read f.registers x) (read f.registers b) (λ v u w. swap_element v u w s)) r

pub push_mirrors : (a b : ℕ) (at : Spot) → Mirrors (i.Push a b at) (pushes a b) at
push_mirrors a b at code last f below s r = mirrored (act code last f below s (i.Push a b at)) f at below s (pushes a b f.registers s) (on_two_keeping f None b f.registers below s at (read f.registers a) (read f.registers b) (λ v w. push v w s)) r

pub pop_mirrors : (to a : ℕ) (at : Spot) → Mirrors (i.Pop to a at) (pops to a) at
pop_mirrors to a at code last f below s r = mirrored (act code last f below s (i.Pop to a at)) f at below s (pops to a f.registers s) (on_one f (Some to) f.registers below s at (read f.registers a) (λ v. pop v s)) r
