-- Births and deaths, each after its tick.
use Rattle.std.proofs.Common.{◌≡◌, ℕ, zero, suc, ◌+◌, ◌-◌, ◌<◌, List, length, Option, Some, None, Bool, true, false, sym, ap, subst, ◌∙◌, arith}
use Rattle.std.specs.Prelude.{if◌then◌else◌}
use Rattle.vale_base.specs.declared.name.Kind.{Kind}
use Rattle.vale_base.specs.declared.spot.Spot.{Spot}
use Rattle.vale_state_spec.specs.Outcome.{Cut}
use Rattle.vale_state_spec.specs.State.{State, dies, make, object_of, spend_of}
use Rattle.vale_state_spec.specs.World.{Object, Value, Int, Truth, Text, Own, Ref, Iso}
use Rattle.vale_code.specs.Act.{act}
use Rattle.vale_code.specs.Frames.{Active, Config, Frame, Next, On, Over, after_tick, ticked, wrong}
use Rattle.vale_code.specs.Instructions.{answered, certain, onward, with_choice, with_owner, with_read, with_registers}
use Rattle.vale_code.specs.Kinds.{holds_values, kind_of}
use Rattle.vale_code.specs.Parts.{Parts}
use Rattle.vale_code.specs.Registers.{Read, Registers, put, put_all, read, read_all}
use Rattle.vale_code.specs.declared.instr.Instr.TheVariants as i
use Rattle.vale_heap.specs.HeapState.{HeapState}
use Rattle.vale_heap.specs.declared.body.Cell.{Cell}
use Rattle.vale_turn.specs.View as turn
use Rattle.vale_turn.specs.declared.stop.Stop.TheVariants as stop
use Rattle.vale_object_cells.specs.Names.{values_in}
use Rattle.vale_object_steps.specs.Doing.{Doing, made_of, makes, opened, opened_of, opened_to, opens}
use Rattle.vale_object_steps.specs.Lent.{FollowsLent}
use Rattle.vale_object_steps.specs.Views.{Agrees, CanDo, Follows, Gave, IsRight, View}
use Rattle.vale_object_steps.specs.declared.effect.Effect.TheVariants as effect
use Rattle.vale_object_turn.specs.Steps.{GoesOn, HasRule, Obeys, ObeysLent, Runs, Scene, active, config, next_of}

-- ---- ticks

abbrev pub after_one : State → State
after_one s = record s { left = s.left - 1; spent = s.spent + 1 }

spend_some : (n : ℕ) (t : State) → 0 < n → spend_of n t ≡ Some (record t { left = n - 1; spent = t.spent + 1 })
spend_some zero t lt = absurd (omega (arith, lt))
spend_some (suc n) t lt = let one : n ≡ suc n - 1 = omega arith in ap (λ k. Some (record t { left = k; spent = t.spent + 1 })) one

pub ticked_on : (t : State) (go : State → Next) → 0 < t.left → after_tick t go ≡ go (after_one t)
ticked_on t go lt = ap (λ o. ticked o t go) (spend_some t.left t lt)

pub not_ticked : (t : State) (go : State → Next) → t.left ≡ 0 → after_tick t go ≡ Over Cut None t
not_ticked t go e = ap (λ n. ticked (spend_of n t) t go) e

-- ---- the step after its tick

-- what the instruction leads to where no tick is left, and where one is
pub record Timed (next : Next) (f : Active) (at : Spot) (below : List Frame) (s : State) (d : Doing) : Type 0 where
  pub right : IsRight d.answer
  pub cut : s.left ≡ 0 → next ≡ Over Cut None s
  pub is : 0 < s.left → next ≡ answered f d.to d.after at below (after_one s) d.answer

module _ (code : Parts) (f : Active) (at : Spot) (below : List Frame) (s : State) (to : ℕ) (kind : Kind) where
  abbrev made_by : List Value → Registers → Next
  made_by vs regs = after_tick s (λ t. certain f (Some to) regs below t (make kind vs t))

  made_timed : (b : Bool) (o : Option Read) → turn.IsRight (if b then with_read o s made_by else wrong s) → Timed (if b then with_read o s made_by else wrong s) f at below s (made_of to kind f.registers (after_one s) o)
  made_timed true None r = absurd r
  made_timed true (Some x) r = record {
    right = tt;
    cut = λ e. not_ticked s (λ t. certain f (Some to) x.after below t (make kind x.values t)) e;
    is = λ lt. ticked_on s (λ t. certain f (Some to) x.after below t (make kind x.values t)) lt;
  }
  made_timed false o r = absurd r

pub make_timed : (code : Parts) (last : Config → State) (f : Active) (at : Spot) (below : List Frame) (s : State) (to : ℕ) (kind : Kind) (args : List ℕ) → turn.IsRight (act code last f below s (i.Make to kind args))
    → Timed (act code last f below s (i.Make to kind args)) f at below s (makes to kind args f.registers (after_one s))
make_timed code last f at below s to kind args r = made_timed code f at below s to kind (holds_values (kind_of code kind) (length args)) (read_all args f.registers) r

module _ (f : Active) (at : Spot) (below : List Frame) (s : State) (to : List ℕ) (from : ℕ) where
  put_timed : (n : ℕ) (o : Option Registers) → turn.IsRight (with_registers o s (λ regs. after_tick s (λ t. onward f regs below (dies n t))))
      → Timed (with_registers o s (λ regs. after_tick s (λ t. onward f regs below (dies n t)))) f at below s (opened_to n f.registers (after_one s) o)
  put_timed n None r = absurd r
  put_timed n (Some regs) r = record {
    right = tt;
    cut = λ e. not_ticked s (λ t. onward f regs below (dies n t)) e;
    is = λ lt. ticked_on s (λ t. onward f regs below (dies n t)) lt;
  }

  abbrev of_object : ℕ → Option Object → Next
  of_object n o = with_choice o s (λ x. with_registers (put_all to x.values (put f.registers from None)) s (λ regs. after_tick s (λ t. onward f regs below (dies n t))))

  object_timed : (n : ℕ) (o : Option Object) → turn.IsRight (of_object n o) → Timed (of_object n o) f at below s (opened_of to from f.registers (after_one s) n o)
  object_timed n None r = absurd r
  object_timed n (Some x) r = put_timed n (put_all to x.values (put f.registers from None)) r

  owner_timed : (o : Option Value) → turn.IsRight (with_owner o s (λ n. of_object n (object_of n s))) → Timed (with_owner o s (λ n. of_object n (object_of n s))) f at below s (opened to from f.registers (after_one s) o)
  owner_timed None r = absurd r
  owner_timed (Some (Own n)) r = object_timed n (object_of n s) r
  owner_timed (Some (Int z)) r = absurd r
  owner_timed (Some (Truth z)) r = absurd r
  owner_timed (Some (Text z)) r = absurd r
  owner_timed (Some (Ref z)) r = absurd r
  owner_timed (Some (Iso z)) r = absurd r

pub open_timed : (code : Parts) (last : Config → State) (f : Active) (at : Spot) (below : List Frame) (s : State) (to : List ℕ) (from : ℕ) → turn.IsRight (act code last f below s (i.Open to from))
    → Timed (act code last f below s (i.Open to from)) f at below s (opens to from f.registers (after_one s))
open_timed code last f at below s to from r = owner_timed f at below s to from (read f.registers from) r

-- ---- from the step to the instruction

abbrev nowhere : Spot
nowhere = record { line = 0; col = 0 }

-- the same names after the tick
abbrev ticked_view : View → View
ticked_view v = record v { state = after_one v.state }

pub still_agrees : (v : View) (heap : HeapState) (cells : List (Option Cell)) → Agrees v heap cells → Agrees (ticked_view v) heap cells
still_agrees v heap cells a = record { stands = a.stands; regions = a.regions; known = a.known }

module _ (heap : HeapState) (cells : List (Option Cell)) (place left : ℕ) where
  goes_on : (s : Scene) (v : View) (d : Doing) (next : Next) (new : HeapState) (after : List (Option Cell)) (new_place new_left : ℕ) → Runs v heap cells left → 0 < left
      → Timed next (active s v place cells) nowhere s.below v.state d → Gave (ticked_view v) d new after → new_place ≡ place + 1 → new_left ≡ left - 1 → GoesOn s v next new after new_place new_left
  goes_on s v d next new after new_place new_left runs some timed g e h =
      let f = active s v place cells in
      let t = g.steady in
      let now : 0 < v.state.left = subst (λ n. 0 < n) (sym runs.ticks_left) some in
      let total : (v.state.spent + 1) + (v.state.left - 1) ≡ v.state.spent + v.state.left = omega (arith, now) in
      record {
        view = g.view;
        grows = record { more = g.grows.more; names = g.grows.names; low = g.grows.low };
        runs = record { agrees = g.agrees; ticks_left = t.left ∙ ap (λ n. n - 1) runs.ticks_left ∙ sym h };
        ticks = (λ i. t.spent i + t.left i) ∙ total;
        pieces = t.pieces;
        frozen = t.frozen;
        is =
            timed.is now
            ∙ ap (answered f d.to d.after nowhere s.below (after_one v.state)) g.is
            ∙ ap (λ rs. onward f rs s.below g.view.state) (sym g.registers)
            ∙ ap (λ p. On (config s g.view p after)) (sym e);
      }

  pub can_make : (to : ℕ) (kind : Kind) (args : List ℕ) → HasRule heap cells place left (i.Make to kind args) → CanDo (makes to kind args) heap cells
  can_make to kind args h = record {
    view = ticked_view h.view;
    agrees = still_agrees h.view heap cells h.runs.agrees;
    right = (make_timed h.scene.code h.scene.last (active h.scene h.view place cells) nowhere h.scene.below h.view.state to kind args h.right).right;
  }

  pub make_cut : (to : ℕ) (kind : Kind) (args : List ℕ) (out : ℕ → Bool) (floors : ℕ → ℕ) (new : HeapState) (after : List (Option Cell)) (new_place new_left : ℕ) → left ≡ 0 → ObeysLent out floors (i.Make to kind args) heap cells place left stop.Cut new after new_place new_left
  make_cut to kind args out floors new after new_place new_left z s v low runs right =
      (make_timed s.code s.last (active s v place cells) nowhere s.below v.state to kind args right).cut (runs.ticks_left ∙ z)

  pub make_obeys : (to : ℕ) (kind : Kind) (args : List ℕ) (out : ℕ → Bool) (floors : ℕ → ℕ) (new : HeapState) (after : List (Option Cell)) (new_place new_left : ℕ) → 0 < left → FollowsLent out floors (makes to kind args) heap cells new after
      → new_place ≡ place + 1 → new_left ≡ left - 1 → ObeysLent out floors (i.Make to kind args) heap cells place left stop.Going new after new_place new_left
  make_obeys to kind args out floors new after new_place new_left some follows e h s v low runs right =
      let timed = make_timed s.code s.last (active s v place cells) nowhere s.below v.state to kind args right in
      goes_on s v (makes to kind args (values_in v.names cells) (after_one v.state)) (next_of s v place cells (i.Make to kind args)) new after new_place new_left runs some timed
      (follows (ticked_view v) low (still_agrees v heap cells runs.agrees) timed.right) e h

  pub can_open : (to : List ℕ) (from : ℕ) → HasRule heap cells place left (i.Open to from) → CanDo (opens to from) heap cells
  can_open to from h = record {
    view = ticked_view h.view;
    agrees = still_agrees h.view heap cells h.runs.agrees;
    right = (open_timed h.scene.code h.scene.last (active h.scene h.view place cells) nowhere h.scene.below h.view.state to from h.right).right;
  }

  pub open_cut : (to : List ℕ) (from : ℕ) (new : HeapState) (after : List (Option Cell)) (new_place new_left : ℕ) → left ≡ 0 → Obeys (i.Open to from) heap cells place left stop.Cut new after new_place new_left
  open_cut to from new after new_place new_left z s v runs right =
      (open_timed s.code s.last (active s v place cells) nowhere s.below v.state to from right).cut (runs.ticks_left ∙ z)

  pub open_obeys : (to : List ℕ) (from : ℕ) (new : HeapState) (after : List (Option Cell)) (new_place new_left : ℕ) → 0 < left → Follows (opens to from) heap cells effect.Done new after
      → new_place ≡ place + 1 → new_left ≡ left - 1 → Obeys (i.Open to from) heap cells place left stop.Going new after new_place new_left
  open_obeys to from new after new_place new_left some follows e h s v runs right =
      let timed = open_timed s.code s.last (active s v place cells) nowhere s.below v.state to from right in
      goes_on s v (opens to from (values_in v.names cells) (after_one v.state)) (next_of s v place cells (i.Open to from)) new after new_place new_left runs some timed
      (follows (ticked_view v) (still_agrees v heap cells runs.agrees) timed.right) e h
