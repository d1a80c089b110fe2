-- How the destruction of an object begins.
use Rattle.std.proofs.Common.{◌≡◌, ℕ, ◌+◌, ◌-◌, ◌<◌, ◌≤◌, List, [], ◌∷◌, length, Option, Some, None, Bool, true, false, nat_le, if◌then◌else◌, refl, sym, ap, subst, ◌∙◌, arith}
use Rattle.std.specs.Prelude.{slice_get}
use Rattle.std.proofs.lemmas.Bool.{leb-false, leb-true}
use Rattle.vale_base.specs.Limits.{depth_limit}
use Rattle.vale_base.specs.declared.name.Kind.{Kind}
use Rattle.vale_base.specs.declared.spot.Spot.{Spot}
use Rattle.vale_base.specs.declared.trap.TrapKind.TheVariants.{CallDepth}
use Rattle.vale_state_spec.specs.State.{State, dies, drop_frame}
use Rattle.vale_state_spec.specs.World.{Object, Own}
use Rattle.vale_code.specs.Destroy.{destroy_by}
use Rattle.vale_code.specs.Enter.{Destructor, Form, Iteration, Plain, Pure, enter, form_of, if_destructor, with_form, with_func}
use Rattle.vale_code.specs.Frames.{Dropping, Frame, Next, after_tick, deeper, on, trap, under}
use Rattle.vale_code.specs.Kinds.{destructor_of, kind_text}
use Rattle.vale_code.specs.Parts.{Parts}
use Rattle.vale_code.specs.declared.func.Func.{Func}
use Rattle.vale_heap.specs.HeapState.{HeapState}
use Rattle.vale_heap.specs.declared.body.Body.{Body}
use Rattle.vale_heap.specs.declared.body.Place.{Place}
use Rattle.vale_turn.specs.View as turn
use Rattle.vale_object_cells.specs.Names.{name_at}
use Rattle.vale_object_steps.specs.Drops.{Ends, IsKindAt}
use Rattle.vale_object_turn.specs.Destroying.{Begins, after_tick_of, destructor_frame}
use Rattle.vale_object_turn.specs.declared.destroy.Onset.TheVariants as onset
use Rattle.vale_object_turn.proofs.BirthLaws.{not_ticked, still_agrees, ticked_on}

module _ (frames : List Frame) (at : Spot) (s : State) where
  -- where the depth allows no more, and where it allows one
  pub too_deep : (depth : ℕ) (x : Next) → depth ≡ length (under frames) + s.frozen → depth_limit < depth + 1 → deeper 1 at frames s x ≡ trap CallDepth at frames s
  too_deep depth x e lt = by_test (nat_le (length (under frames) + s.frozen + 1) depth_limit) refl
    where
      by_test : (b : Bool) → nat_le (length (under frames) + s.frozen + 1) depth_limit ≡ b → (if b then x else trap CallDepth at frames s) ≡ trap CallDepth at frames s
      by_test false h = refl
      by_test true h = absurd (let le = leb-true (length (under frames) + s.frozen + 1) depth_limit h in omega (arith, le, lt, e))

  pub deep_enough : (depth : ℕ) (x : Next) → depth ≡ length (under frames) + s.frozen → depth + 1 ≤ depth_limit → deeper 1 at frames s x ≡ x
  deep_enough depth x e few = by_test (nat_le (length (under frames) + s.frozen + 1) depth_limit) refl
    where
      by_test : (b : Bool) → nat_le (length (under frames) + s.frozen + 1) depth_limit ≡ b → (if b then x else trap CallDepth at frames s) ≡ x
      by_test true h = refl
      by_test false h = absurd (let lt = leb-false (length (under frames) + s.frozen + 1) depth_limit h in omega (arith, lt, few, e))

module _ (code : Parts) (n : ℕ) (o : Object) (at : Spot) (frames : List Frame) (s : State) where
  -- the destruction that begins with a tick
  abbrev begins_with : (State → Next) → Next
  begins_with go = deeper 1 at frames s (after_tick s go)

  -- a destructor that is entered
  record Entered (f : ℕ) (next : Next) (found : Option Func) : Type 0 where
    func : Func
    is_func : found ≡ Some func
    is : next ≡ begins_with (λ t. on (destructor_frame code f func o at n) frames t)

  abbrev enters : ℕ → Form → Func → Next
  enters f form func = if_destructor form s (enter f form func (drop_frame (kind_text code o.kind) at) None (Own n ∷ []) frames s)

  by_form : (f : ℕ) (form : Option Form) (func : Func) → turn.IsRight (with_form form func s (enters f)) → Entered f (with_form form func s (enters f)) (Some func)
  by_form f None func r = absurd r
  by_form f (Some Destructor) func r = record { func = func; is_func = refl; is = refl }
  by_form f (Some Plain) func r = absurd r
  by_form f (Some Pure) func r = absurd r
  by_form f (Some Iteration) func r = absurd r

  by_func : (f : ℕ) (func : Option Func) → turn.IsRight (with_func func s (enters f)) → Entered f (with_func func s (enters f)) func
  by_func f None r = absurd r
  by_func f (Some func) r = by_form f (form_of func.form) func r

  -- either way it begins with the depth and a tick
  pub begin_right : (d : Option ℕ) → turn.IsRight (destroy_by code d n o at frames s) → (go : State → Next) × (destroy_by code d n o at frames s ≡ begins_with go)
  begin_right None r = ((λ t. on (Dropping (record { call = drop_frame (kind_text code o.kind) at; rest = o.values })) frames (dies n t)), refl)
  begin_right (Some f) r = let e = by_func f (slice_get code.funcs f) r in ((λ t. on (destructor_frame code f e.func o at n) frames t), e.is)

  pub entered : (f : ℕ) (d : Option ℕ) → d ≡ Some f → turn.IsRight (destroy_by code d n o at frames s) → (func : Func) × (slice_get code.funcs f ≡ Some func) × (destroy_by code d n o at frames s ≡ begins_with (λ t. on (destructor_frame code f func o at n) frames t))
  entered f None e r = absurd (let y : ⊥ = cc in y)
  entered f (Some g) e r =
      let same : g ≡ f = cc in
      let x = by_func g (slice_get code.funcs g) r in
      (x.func, ap (slice_get code.funcs) (sym same) ∙ x.is_func, x.is ∙ ap (λ k. begins_with (λ t. on (destructor_frame code k x.func o at n) frames t)) same)

  pub died : (d : Option ℕ) → d ≡ None → destroy_by code d n o at frames s ≡ begins_with (λ t. on (Dropping (record { call = drop_frame (kind_text code o.kind) at; rest = o.values })) frames (dies n t))
  died d e = ap (λ x. destroy_by code x n o at frames s) e

module _ (code : Parts) (p : Place) (depth : ℕ) (heap : HeapState) (left : ℕ) where
  pub begin_deep : (new : HeapState) (new_left : ℕ) → depth_limit < depth + 1 → Begins code p depth heap left (onset.Trap CallDepth) new new_left
  begin_deep new new_left lt v cells o at frames runs known lives e right =
      let b = begin_right code (name_at v.names p) o at frames v.state (destructor_of code o.kind) right in
      b.1 ∙ too_deep frames at v.state depth (after_tick v.state b.0) e lt

  pub begin_cut : (new : HeapState) (new_left : ℕ) → depth + 1 ≤ depth_limit → left ≡ 0 → Begins code p depth heap left onset.Cut new new_left
  begin_cut new new_left few z v cells o at frames runs known lives e right =
      let b = begin_right code (name_at v.names p) o at frames v.state (destructor_of code o.kind) right in
      b.1 ∙ deep_enough frames at v.state depth (after_tick v.state b.0) e few ∙ not_ticked v.state b.0 (runs.ticks_left ∙ z)

  pub begin_enters : (f : ℕ) (kind : Kind) (new_left : ℕ) → depth + 1 ≤ depth_limit → 0 < left → IsKindAt heap p kind → destructor_of code kind ≡ Some f → new_left ≡ left - 1 → Begins code p depth heap left (onset.Enters f) heap new_left
  begin_enters f kind new_left few some is found h v cells o at frames runs known lives e right =
      let same = is v cells o runs.agrees known lives in
      let d : destructor_of code o.kind ≡ Some f = ap (destructor_of code) (sym same) ∙ found in
      let x = entered code (name_at v.names p) o at frames v.state f (destructor_of code o.kind) d right in
      let now : 0 < v.state.left = subst (λ k. 0 < k) (sym runs.ticks_left) some in
      let go = λ (t : State). on (destructor_frame code f x.0 o at (name_at v.names p)) frames t in (
        x.0,
        d,
        x.1,
        x.2 ∙ deep_enough frames at v.state depth (after_tick v.state go) e few ∙ ticked_on v.state go now,
        record { agrees = still_agrees v heap cells runs.agrees; ticks_left = ap (λ k. k - 1) runs.ticks_left ∙ sym h },
        now,
      )

  pub begin_dies : (kind : Kind) (body : Body) (new : HeapState) (new_left : ℕ) → depth + 1 ≤ depth_limit → 0 < left → IsKindAt heap p kind → destructor_of code kind ≡ None → Ends heap p new body → new_left ≡ left - 1
      → Begins code p depth heap left (onset.Dies body) new new_left
  begin_dies kind body new new_left few some is none ends h v cells o at frames runs known lives e right =
      let same = is v cells o runs.agrees known lives in
      let n = name_at v.names p in
      let d : destructor_of code o.kind ≡ None = ap (destructor_of code) (sym same) ∙ none in
      let now : 0 < v.state.left = subst (λ k. 0 < k) (sym runs.ticks_left) some in
      let ended = ends (after_tick_of v) cells o (still_agrees v heap cells runs.agrees) known lives in
      let go = λ (t : State). on (Dropping (record { call = drop_frame (kind_text code o.kind) at; rest = o.values })) frames (dies n t) in (
        died code n o at frames v.state (destructor_of code o.kind) d
            ∙ deep_enough frames at v.state depth (after_tick v.state go) e few
            ∙ ticked_on v.state go now
            ∙ ap (λ vs. on (Dropping (record { call = drop_frame (kind_text code o.kind) at; rest = vs })) frames (dies n (after_tick_of v).state)) (sym ended.values),
        ended,
        ap (λ k. k - 1) runs.ticks_left ∙ sym h,
        now,
      )
