-- How the destruction of an owner's object begins.
use Rattle.std.proofs.Common.{◌≡◌, ℕ, zero, suc, ◌+◌, ◌-◌, ◌<◌, ◌≤◌, ◌++◌, List, [], ◌∷◌, length, map, take, drop, replicate, Option, Some, None, refl, sym, ap, subst, ◌∙◌, arith}
use Rattle.std.specs.Prelude.{codes, slice_get}
use Rattle.std.specs.List.{AllByRecursion}
use Rattle.std.proofs.lemmas.List.{length-take-le, take-take}
use Rattle.std.proofs.lemmas.Option.{slice_get_within}
use Rattle.vale_base.specs.declared.spot.Spot.{Spot}
use Rattle.vale_base.specs.declared.trap.TrapKind.{TrapKind}
use Rattle.vale_state_spec.specs.State.{State, dies, drop_frame, living}
use Rattle.vale_state_spec.specs.World.{Object}
use Rattle.vale_state_spec.specs.World.{Own as owner}
use Rattle.vale_code.specs.Destroy.{destroy_by, destroy_object}
use Rattle.vale_code.specs.Frames as meaning
use Rattle.vale_code.specs.Frames.{Next, on, under}
use Rattle.vale_code.specs.Kinds.{destructor_of, kind_text}
use Rattle.vale_code.specs.Parts.{Parts}
use Rattle.vale_code.specs.Registers.{registers_for}
use Rattle.vale_code.specs.declared.func.Func.{Func}
use Rattle.vale_registers.specs.Passing.{from_base}
use Rattle.vale_registers.specs.Texts.{text_at}
use Rattle.vale_heap.specs.HeapState.{HeapState}
use Rattle.vale_heap.specs.declared.body.Body.{Body}
use Rattle.vale_heap.specs.declared.body.Cell.{Cell}
use Rattle.vale_heap.specs.declared.body.Cell.TheVariants.{Own}
use Rattle.vale_heap.specs.declared.body.Place.{Place}
use Rattle.vale_turn.specs.View.{IsRight}
use Rattle.vale_object_cells.specs.Cells.{cells_from}
use Rattle.vale_object_cells.specs.Names.{AllKnown, Knows, name_at, value_of, values_in}
use Rattle.vale_object_cells.specs.declared.register.Register.{Register}
use Rattle.vale_object_steps.specs.Drops.{CanEnd}
use Rattle.vale_object_steps.specs.Views.{View}
use Rattle.vale_object_steps.proofs.FieldLaws.{same_names}
use Rattle.vale_object_turn.specs.Destroying.{Begins, Begun, after_tick_of}
use Rattle.vale_object_turn.specs.Steps as turn
use Rattle.vale_object_turn.specs.declared.destroy.Onset.{Onset}
use Rattle.vale_object_turn.specs.declared.destroy.Onset.TheVariants as onset
use Rattle.vale_object_frames.specs.Frames.{AreKnown, IsPlain, Lie, dropped_text, emptying_of, frames_in, name_in, told_of}
use Rattle.vale_object_frames.specs.Stacks.{IsLeft}
use Rattle.vale_object_frames.specs.declared.frame.Active.{Active}
use Rattle.vale_object_frames.specs.declared.frame.Frame.{Frame}
use Rattle.vale_object_frames.specs.declared.frame.Frame.TheVariants as frame
use Rattle.vale_object_frames.proofs.FrameLaws.{as_many_calls}
use Rattle.vale_object_flow.specs.Flow.{GoesOn, Runs, all_frames, row_of}
use Rattle.vale_object_flow.specs.declared.control.Came.TheVariants as came
use Rattle.vale_object_flow.specs.declared.control.Control.{Control}
use Rattle.vale_object_flow.proofs.Calling.{padded_known, same_func, steady}
use Rattle.vale_object_flow.proofs.Entering.{registers_are}
use Rattle.vale_object_drops.specs.Destroying.{CanDestroy, Destroys, HasDestructors, IsDestructor, IsEntered, destroy_next, stack_of}

-- ---- an owner's object lives

module _ (code : Parts) (n : ℕ) (at : Spot) (frames : List meaning.Frame) (s : State) where
  pub record Living (o : Option (Option Object)) : Type 0 where
    pub object : Object
    pub found : o ≡ Some (Some object)
    pub right : IsRight (destroy_by code (destructor_of code object.kind) n object at frames s)
    pub is : destroy_object code (living o) n at frames s ≡ destroy_by code (destructor_of code object.kind) n object at frames s

  pub lives : (o : Option (Option Object)) → IsRight (destroy_object code (living o) n at frames s) → Living o
  lives None r = absurd r
  lives (Some None) r = absurd r
  lives (Some (Some x)) r = record { object = x; found = refl; right = r; is = refl }

-- with no registers
pub alone : (code : Parts) (v : View) (heap : HeapState) (frames : List Frame) (texts : List (List ℕ)) (row : List Register) (left : ℕ) → Runs code v heap frames texts row left → turn.Runs v heap [] left
alone code v heap frames texts row left runs = record {
  agrees = record { stands = runs.stands; regions = runs.regions; known = λ r q e. absurd (let x : ⊥ = cc in x) };
  ticks_left = runs.ticks_left;
}

one_known : (names : List Place) (c : Cell) → Knows names (Some c) → AllKnown names (Some c ∷ [])
one_known names c k zero p e = k p e
one_known names c k (suc r) p e = absurd (let x : ⊥ = cc in x)

module _ (code : Parts) (depth : ℕ) (heap : HeapState) (old : Control) (left : ℕ) (p : Place) (at : Spot) where
  pub living_of : (v : View) → IsRight (destroy_next code v old (Own p) at) → Living code (name_at v.names p) at (stack_of code v old) v.state (slice_get v.state.world (name_at v.names p))
  living_of v r = lives code (name_at v.names p) at (stack_of code v old) v.state (slice_get v.state.world (name_at v.names p)) r

  pub can_end : CanDestroy code depth heap old left (Own p) at → CanEnd heap p
  can_end can =
      let v = can.view in
      let x = living_of v can.right in
      record { view = v; cells = []; agrees = (alone code v heap old.below old.texts (row_of old) left can.runs).agrees; known = can.known p refl; object = x.object; lives = x.found }

  pub begun : (told : Onset) (new : HeapState) (new_left : ℕ) → Begins code p depth heap left told new new_left → (v : View) → Runs code v heap old.below old.texts (row_of old) left → Knows v.names (Some (Own p)) → depth ≡ length old.below + v.state.frozen
      → (right : IsRight (destroy_next code v old (Own p) at)) → Begun code v (living_of v right).object p at (stack_of code v old) [] told (destroy_next code v old (Own p) at) new new_left
  begun told new new_left b v runs known deep right =
      let x = living_of v right in
      let calls = as_many_calls code v.names old.below old.texts (row_of old) in
      let depth_is : depth ≡ length (under (stack_of code v old)) + v.state.frozen = omega (arith, deep, calls) in
      subst (λ next. Begun code v x.object p at (stack_of code v old) [] told next new new_left) (sym x.is)
      (b v [] x.object at (stack_of code v old) (alone code v heap old.below old.texts (row_of old) left runs) (known p refl) x.found depth_is x.right)

  -- ---- a destructor

  pub destructor_there : (f : ℕ) (new : HeapState) (new_left : ℕ) → CanDestroy code depth heap old left (Own p) at → Begins code p depth heap left (onset.Enters f) new new_left → f < length code.funcs
  destructor_there f new new_left can b =
      let x = begun (onset.Enters f) new new_left b can.view can.runs can.known can.deep can.right in
      slice_get_within code.funcs f x.0 x.2

  pub destructor_room : (f : ℕ) (new : HeapState) (new_left : ℕ) → HasDestructors code → CanDestroy code depth heap old left (Own p) at → Begins code p depth heap left (onset.Enters f) new new_left → (func : Func) → slice_get code.funcs f ≡ Some func → 0 < func.registers
  destructor_room f new new_left has can b func found =
      let x = begun (onset.Enters f) new new_left b can.view can.runs can.known can.deep can.right in
      (has (living_of can.view can.right).object.kind f func x.1 found).room

  module _ (f : ℕ) (new_heap : HeapState) (new : Control) (new_left : ℕ) (e : IsEntered code f p at old new) (few : old.end ≤ length old.registers.items) where
    abbrev callee : Active
    callee = record { function = f; at = at; dest = None; place = 0; base = old.end }

    abbrev row : List Register
    row = take (old.end + e.func.registers) new.registers.items

    module _ (v : View) (o : Object) (next : Next) (runs : Runs code v heap old.below old.texts (row_of old) left) (known : Knows v.names (Some (Own p))) (d : IsDestructor o.kind e.func) (b : Begun code v o p at (stack_of code v old) [] (onset.Enters f) next new_heap new_left) where
      cells : cells_from old.end old.texts (drop old.end row) ≡ Some (Own p) ∷ replicate (e.func.registers - 1) None
      cells = e.cells (from_base old.end (text_at old.texts))

      lower : take old.end row ≡ row_of old
      lower = take-take old.end (old.end + e.func.registers) new.registers.items (omega arith) ∙ e.row

      values : values_in v.names (cells_from old.end old.texts (drop old.end row)) ≡ registers_for e.func.registers (owner (name_at v.names p) ∷ [])
      values = ap (values_in v.names) cells ∙ registers_are v.names None (Some (Own p) ∷ []) (owner (name_at v.names p) ∷ []) (e.func.registers - 1) e.func.registers refl refl

      name : name_in code (slice_get code.funcs f) ≡ codes "drop " ++ kind_text code o.kind
      name = ap (name_in code) e.found ∙ ap (λ n. told_of code n e.func) d.form ∙ ap (dropped_text code) d.takes

      same : e.func ≡ b.0
      same = same_func (slice_get code.funcs f) e.func b.0 e.found b.2

      runs_on : GoesOn code v next new_heap (frame.Running callee ∷ old.below) old.texts row new_left
      runs_on =
          let s = v.state in
          let w = after_tick_of v in
          let some : 0 < s.left = b.5 in
          let size : length row ≡ old.end + e.func.registers = length-take-le (old.end + e.func.registers) new.registers.items e.many in
          let was : length (row_of old) ≡ old.end = length-take-le old.end old.registers.items few in
          record {
            view = w;
            grows = same_names v w.state;
            runs = record {
              stands = b.4.agrees.stands;
              regions = b.4.agrees.regions;
              known = (
                subst (AllKnown v.names) (sym cells) (padded_known v.names (Some (Own p) ∷ []) (e.func.registers - 1) (one_known v.names (Own p) known)),
                subst (AreKnown v.names old.below old.texts) (sym lower) runs.known,
              );
              ticks_left = b.4.ticks_left;
              lie = (record { func = e.func; found = e.found; plain = subst IsPlain (sym d.form) tt; size = sym size }, tt, subst (Lie code old.below) was runs.lie);
            };
            ticks = let total : (s.spent + 1) + (s.left - 1) ≡ s.spent + s.left = omega (arith, some) in total;
            pieces = refl;
            frozen = refl;
            is =
                b.3
                ∙ (λ i. on (meaning.Running (record { call = drop_frame (kind_text code o.kind) at; function = f; dest = None; place = 0; registers = registers_for (sym same i).registers (owner (name_at v.names p) ∷ []) })) (stack_of code v old) w.state)
                ∙ (λ i. on (meaning.Running (record { call = record { what = sym name i; at = at }; function = f; dest = None; place = 0; registers = sym values i })) (frames_in code v.names old.below old.texts (sym lower i)) w.state);
          }

      pub runs_destructor : GoesOn code v next new_heap (all_frames new) new.texts (row_of new) new_left
      runs_destructor =
          let frames_are : frame.Running callee ∷ old.below ≡ all_frames new = (λ i. frame.Running (sym e.top i) ∷ sym e.below i) in
          let row_is : row ≡ row_of new = ap (λ n. take n new.registers.items) (sym e.end) in
          subst (λ fs. GoesOn code v next new_heap fs new.texts (row_of new) new_left) frames_are
          (subst (λ t. GoesOn code v next new_heap (frame.Running callee ∷ old.below) t (row_of new) new_left) (sym e.texts)
          (subst (λ r. GoesOn code v next new_heap (frame.Running callee ∷ old.below) old.texts r new_left) row_is runs_on))

    pub destroys_by_entering : HasDestructors code → Begins code p depth heap left (onset.Enters f) new_heap new_left → Destroys code depth heap old left (Own p) at came.Running new_heap new new_left
    destroys_by_entering has b v runs known deep right =
        let x = begun (onset.Enters f) new_heap new_left b v runs known deep right in
        let o = (living_of v right).object in
        runs_destructor v o (destroy_next code v old (Own p) at) runs known (has o.kind f e.func x.1 e.found) x

  -- ---- an object that dies

  pub destroys_by_death : (body : Body) (new_heap : HeapState) (stack : List Frame) (new_left : ℕ) → Begins code p depth heap left (onset.Dies body) new_heap new_left → IsLeft body.kind at body.cells old.below stack
      → Destroys code depth heap old left (Own p) at came.Dropping new_heap (record { registers = old.registers; texts = old.texts; end = old.end; top = old.top; below = stack }) new_left
  destroys_by_death body new_heap stack new_left b e v runs known deep right =
      let x = begun (onset.Dies body) new_heap new_left b v runs known deep right in
      let o = (living_of v right).object in
      let s = v.state in
      let some : 0 < s.left = x.3 in
      let l = e.leftover in
      let t = dies (name_at v.names p) (after_tick_of v).state in
      let next = destroy_next code v old (Own p) at in
      let kind_is = e.kind_is ∙ x.1.kind in
      let emptying : emptying_of code v.names l ≡ record { call = drop_frame (kind_text code o.kind) at; rest = map (value_of v.names) body.cells } =
      (λ i. record { call = drop_frame (kind_text code (kind_is i)) (e.at_is i); rest = map (value_of v.names) (e.rest_is i) }) in
      let went : GoesOn code v next new_heap (frame.Dropping l ∷ old.below) old.texts (row_of old) new_left =
      record {
        view = record v { state = t };
        grows = same_names v t;
        runs = record {
          stands = x.1.agrees.stands;
          regions = x.1.agrees.regions;
          known = (subst (AllByRecursion (λ c. Knows v.names (Some c))) (sym e.rest_is) x.1.known, runs.known);
          ticks_left = x.2;
          lie = runs.lie;
        };
        ticks = let total : (s.spent + 1) + (s.left - 1) ≡ s.spent + s.left = omega (arith, some) in total;
        pieces = refl;
        frozen = refl;
        is = x.0 ∙ (λ i. on (meaning.Dropping (sym emptying i)) (stack_of code v old) t);
      } in
      subst (λ fs. GoesOn code v next new_heap fs old.texts (row_of old) new_left) (sym e.is) went

  -- ---- no object is destroyed

  pub destroys_trap : (kind : TrapKind) (new_heap : HeapState) (new : Control) (new_left : ℕ) → Begins code p depth heap left (onset.Trap kind) new_heap new_left → Destroys code depth heap old left (Own p) at (came.Trap kind at) new_heap new new_left
  destroys_trap kind new_heap new new_left b v runs known deep right = (v.state, steady v.state, begun (onset.Trap kind) new_heap new_left b v runs known deep right)

  pub destroys_cut : (new_heap : HeapState) (new : Control) (new_left : ℕ) → Begins code p depth heap left onset.Cut new_heap new_left → Destroys code depth heap old left (Own p) at came.Cut new_heap new new_left
  destroys_cut new_heap new new_left b v runs known deep right = (v.state, steady v.state, begun onset.Cut new_heap new_left b v runs known deep right)
