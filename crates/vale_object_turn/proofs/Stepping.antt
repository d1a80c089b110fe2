-- From what a step comes to, to what an instruction leads to.
use Rattle.std.proofs.Common.{◌≡◌, ℕ, ◌+◌, List, Option, refl, sym, ap, subst, ◌∙◌}
use Rattle.std.specs.Prelude.{Err, IfOk, Ok, OnOk, Result}
use Rattle.vale_base.specs.declared.spot.Spot.{Spot}
use Rattle.vale_base.specs.declared.trap.TrapKind.{TrapKind}
use Rattle.vale_state_spec.specs.State.{State}
use Rattle.vale_code.specs.Frames.{Next, On}
use Rattle.vale_code.specs.Instructions.{answered, onward}
use Rattle.vale_code.specs.Registers.{Registers}
use Rattle.vale_code.specs.declared.instr.Instr.{Instr}
use Rattle.vale_turn.specs.declared.stop.Stop.{Stop}
use Rattle.vale_turn.specs.declared.stop.Stop.TheVariants as stop
use Rattle.vale_heap.specs.HeapState.{HeapState}
use Rattle.vale_heap.specs.declared.body.Cell.{Cell}
use Rattle.vale_object_steps.specs.Doing.{Doing}
use Rattle.vale_object_steps.specs.Views.{CanDo, Came, Follows, Gave, View}
use Rattle.vale_object_steps.specs.declared.effect.Effect.{Effect}
use Rattle.vale_object_steps.specs.declared.effect.Effect.TheVariants as effect
use Rattle.vale_object_cells.specs.Names.{values_in}
use Rattle.vale_object_turn.specs.Landing.{Landed}
use Rattle.vale_object_turn.specs.Steps.{GoesOn, HasRule, Obeys, Runs, Scene, Stepped, active, config, next_of}
use Rattle.vale_object_turn.proofs.Mirrors.{Mirrors, MirrorsSurely}

module _ (instr : Instr) (step : Registers → State → Doing) (heap : HeapState) (cells : List (Option Cell)) (place left : ℕ) where
  pub can_do : (at : Spot) → Mirrors instr step at → HasRule heap cells place left instr → CanDo step heap cells
  can_do at mirrors h = record {
    view = h.view;
    agrees = h.runs.agrees;
    right = (mirrors h.scene.code h.scene.last (active h.scene h.view place cells) h.scene.below h.view.state h.right).right;
  }

  pub can_surely : MirrorsSurely instr step → HasRule heap cells place left instr → CanDo step heap cells
  can_surely mirrors h = record {
    view = h.view;
    agrees = h.runs.agrees;
    right = (mirrors h.scene.code h.scene.last (active h.scene h.view place cells) h.scene.below h.view.state h.right).right;
  }

  -- what such an instruction comes to is no trap
  pub no_trap : (kind : TrapKind) (came : Effect) (new : HeapState) (after : List (Option Cell)) → MirrorsSurely instr step → HasRule heap cells place left instr → Follows step heap cells came new after → came ≡ effect.Trap kind → ⊥
  no_trap kind came new after mirrors h follows e =
      let m = mirrors h.scene.code h.scene.last (active h.scene h.view place cells) h.scene.below h.view.state h.right in
      m.no_trap kind (subst (λ c. Came h.view (step (values_in h.view.names cells) h.view.state) c new after) e (follows h.view h.runs.agrees m.right))

  gone_on : (s : Scene) (v : View) (d : Doing) (next : Next) (at : Spot) (new : HeapState) (after : List (Option Cell)) (new_place : ℕ) → Runs v heap cells left
      → next ≡ answered (active s v place cells) d.to d.after at s.below v.state d.answer → Gave v d new after → new_place ≡ place + 1 → GoesOn s v next new after new_place left
  gone_on s v d next at new after new_place runs is g e =
      let f = active s v place cells in
      let t = g.steady in
      record {
        view = g.view;
        grows = g.grows;
        runs = record { agrees = g.agrees; ticks_left = t.left ∙ runs.ticks_left };
        ticks = λ i. t.spent i + t.left i;
        pieces = t.pieces;
        frozen = t.frozen;
        is =
            is
            ∙ ap (answered f d.to d.after at s.below v.state) g.is
            ∙ ap (λ rs. onward f rs s.below g.view.state) (sym g.registers)
            ∙ ap (λ p. On (config s g.view p after)) (sym e);
      }

  by_effect : (s : Scene) (v : View) (d : Doing) (next : Next) (at : Spot) (came : Effect) (told : Stop) (new : HeapState) (after : List (Option Cell)) (new_place : ℕ) → Runs v heap cells left
      → next ≡ answered (active s v place cells) d.to d.after at s.below v.state d.answer → Came v d came new after → Landed came at told place new_place → Stepped s v place cells told next new after new_place left
  by_effect s v d next at effect.Done told new after new_place runs is came landed = subst (λ t. Stepped s v place cells t next new after new_place left) (sym landed.0) (gone_on s v d next at new after new_place runs is came landed.1)
  by_effect s v d next at (effect.Trap kind) told new after new_place runs is came landed =
      subst (λ t. Stepped s v place cells t next new after new_place left) (sym landed) (is ∙ ap (answered (active s v place cells) d.to d.after at s.below v.state) came)

  pub obeys : (at : Spot) (came : Effect) (told : Stop) (new : HeapState) (after : List (Option Cell)) (new_place : ℕ) → Mirrors instr step at → Follows step heap cells came new after → Landed came at told place new_place
      → Obeys instr heap cells place left told new after new_place left
  obeys at came told new after new_place mirrors follows landed s v runs right =
      let m = mirrors s.code s.last (active s v place cells) s.below v.state right in
      by_effect s v (step (values_in v.names cells) v.state) (next_of s v place cells instr) at came told new after new_place runs m.is (follows v runs.agrees m.right) landed

  -- the same of an instruction that has no trap
  pub obeys_surely : (new : HeapState) (after : List (Option Cell)) (new_place : ℕ) → MirrorsSurely instr step → Follows step heap cells effect.Done new after → new_place ≡ place + 1
      → Obeys instr heap cells place left stop.Going new after new_place left
  obeys_surely new after new_place mirrors follows e s v runs right =
      let m = mirrors s.code s.last (active s v place cells) s.below v.state right in
      let at : Spot = record { line = 0; col = 0 } in
      gone_on s v (step (values_in v.names cells) v.state) (next_of s v place cells instr) at new after new_place runs (m.is at) (follows v runs.agrees m.right) e

-- ---- the same of the arms of a `match` on an instruction

pub if_ok : {T E : Type 0} (r : Result T E) (P Q : T → Type 0) → IfOk r P → ((x : T) → P x → Q x) → IfOk r Q
if_ok (Ok x) P Q h f = f x h
if_ok (Err e) P Q h f = tt

-- what holds where a step came to something holds where its instruction did
pub ok_on : {E F : Type 0} (came : Result Effect E) (r : Result Stop F) (X : Type 0) (L : Effect → Stop → Type 0) → IfOk r (λ told. (e : Effect) × (came ≡ Ok e) × L e told) → OnOk came X → OnOk r X
ok_on came (Ok told) X L h o = subst (λ c. OnOk c X) h.1 o
ok_on came (Err e) X L h o = tt

pub ok_surely : {E F : Type 0} (came : Result Effect E) (r : Result Stop F) (X : Type 0) (L M : Stop → Type 0) → IfOk r (λ told. (came ≡ Ok effect.Done) × L told × M told) → OnOk came X → OnOk r X
ok_surely came (Ok told) X L M h o = subst (λ c. OnOk c X) h.0 o
ok_surely came (Err e) X L M h o = tt

module _ (instr same : Instr) (step : Registers → State → Doing) (heap : HeapState) (cells : List (Option Cell)) (place : ℕ) (is : instr ≡ same) where
  pub can : (at : Spot) → Mirrors same step at → (left : ℕ) × HasRule heap cells place left instr → CanDo step heap cells
  can at mirrors h = can_do same step heap cells place h.0 at mirrors (subst (HasRule heap cells place h.0) is h.1)

  pub can_so : MirrorsSurely same step → (left : ℕ) × HasRule heap cells place left instr → CanDo step heap cells
  can_so mirrors h = can_surely same step heap cells place h.0 mirrors (subst (HasRule heap cells place h.0) is h.1)

  pub never_traps : {E : Type 0} (came : Result Effect E) (new : HeapState) (after : List (Option Cell)) → MirrorsSurely same step → (left : ℕ) × HasRule heap cells place left instr → IfOk came (λ e. Follows step heap cells e new after)
      → (kind : TrapKind) → came ≡ Ok (effect.Trap kind) → ⊥
  never_traps came new after mirrors h follows kind e =
      no_trap same step heap cells place h.0 kind (effect.Trap kind) new after mirrors (subst (HasRule heap cells place h.0) is h.1) (subst (λ c. IfOk c (λ x. Follows step heap cells x new after)) e follows) refl

  pub lands : {E F : Type 0} (at : Spot) (came : Result Effect E) (r : Result Stop F) (new : HeapState) (after : List (Option Cell)) (new_place : ℕ) → Mirrors same step at → IfOk came (λ e. Follows step heap cells e new after)
      → IfOk r (λ told. (e : Effect) × (came ≡ Ok e) × Landed e at told place new_place) → IfOk r (λ told. (left : ℕ) → Obeys instr heap cells place left told new after new_place left)
  lands at came r new after new_place mirrors follows landed =
      if_ok r (λ told. (e : Effect) × (came ≡ Ok e) × Landed e at told place new_place) (λ told. (left : ℕ) → Obeys instr heap cells place left told new after new_place left) landed
      (λ told h left. subst (λ x. Obeys x heap cells place left told new after new_place left) (sym is)
      (obeys same step heap cells place left at h.0 told new after new_place mirrors (subst (λ c. IfOk c (λ x. Follows step heap cells x new after)) h.1 follows) h.2))

  pub lands_surely : {E F : Type 0} (came : Result Effect E) (r : Result Stop F) (new : HeapState) (after : List (Option Cell)) (new_place : ℕ) → MirrorsSurely same step → IfOk came (λ e. Follows step heap cells e new after)
      → IfOk r (λ told. (came ≡ Ok effect.Done) × (told ≡ stop.Going) × (new_place ≡ place + 1)) → IfOk r (λ told. (left : ℕ) → Obeys instr heap cells place left told new after new_place left)
  lands_surely came r new after new_place mirrors follows landed =
      if_ok r (λ told. (came ≡ Ok effect.Done) × (told ≡ stop.Going) × (new_place ≡ place + 1)) (λ told. (left : ℕ) → Obeys instr heap cells place left told new after new_place left) landed
      (λ told h left. subst (λ x. Obeys x heap cells place left told new after new_place left) (sym is)
      (subst (λ t. Obeys same heap cells place left t new after new_place left) (sym h.1)
      (obeys_surely same step heap cells place left new after new_place mirrors (subst (λ c. IfOk c (λ x. Follows step heap cells x new after)) h.0 follows) h.2)))

  -- of an instruction that looks at no object
  pub goes : (new : HeapState) (after : List (Option Cell)) (new_place left : ℕ) → MirrorsSurely same step → Follows step heap cells effect.Done new after → new_place ≡ place + 1 → Obeys instr heap cells place left stop.Going new after new_place left
  goes new after new_place left mirrors follows e = subst (λ x. Obeys x heap cells place left stop.Going new after new_place left) (sym is) (obeys_surely same step heap cells place left new after new_place mirrors follows e)
