-- Fields of objects.
use Rattle.std.proofs.Common.{◌≡◌, ℕ, ◌<◌, List, [], length, Option, Some, None, refl, sym, ap, subst, ◌∙◌, arith, append-nil}
use Rattle.std.specs.Prelude.{slice_get, slice_set}
use Rattle.vale_state_spec.specs.State.{Answer, State, changed, field_in, gives, swap, swapped_in}
use Rattle.vale_state_spec.specs.World.{Object, Value}
use Rattle.vale_base.specs.declared.trap.TrapKind.TheVariants.{DeadReference}
use Rattle.vale_code.specs.Registers.{put, read}
use Rattle.vale_heap.specs.HeapLends as lends
use Rattle.vale_heap.specs.HeapState.{HeapState, look_in}
use Rattle.vale_heap.specs.Standing.{DenoteAll, StandsChanged, StandsFound, StandsLooked}
use Rattle.vale_heap.specs.declared.body.Body.{Body}
use Rattle.vale_heap.specs.declared.body.Cell.{Cell}
use Rattle.vale_heap.specs.declared.body.Place.{Place}
use Rattle.vale_object_cells.specs.Cells.{held, kept_cells, lent_cell, place_in}
use Rattle.vale_object_cells.specs.Names.{Knows, name_at, value_of, values_in}
use Rattle.vale_object_cells.proofs.Naming.{denotes_is, denotes_known, is_denoted}
use Rattle.vale_object_steps.specs.Doing.{loads, on_value, swaps}
use Rattle.vale_object_steps.specs.Views.{Agrees, CanDo, Follows, Grows, IsRight, View}
use Rattle.vale_object_steps.specs.declared.effect.Effect.TheVariants as effect
use Rattle.vale_object_steps.proofs.Registers.{kept_from, kept_size, on_held, on_there, written_to}
use Rattle.vale_object_steps.proofs.Objects.{changes, denote_set, field_is, field_within, finds, known, leads, lent_knows, lent_value, looks, on_dead, on_living}

pub same_names : (v : View) (s : State) → Grows v (record v { state = s })
same_names v s = record { more = []; names = sym (append-nil v.names); low = refl }

-- ---- a field that is read

module _ (to a field : ℕ) (heap : HeapState) (cells : List (Option Cell)) where
  on_load : State → ℕ → Object → Answer
  on_load s n o = field_in (slice_get o.values field) s

  pub load_place : CanDo (loads to a field) heap cells → (p : Place) × (place_in (held cells a) ≡ Some p)
  load_place can = leads can.view.names cells a can.view.state (λ n o. field_in (slice_get o.values field) can.view.state) can.right

  got_within : (names : List Place) (body : List Cell) (values : List Value) (s : State) (o : Option Value) → slice_get values field ≡ o → DenoteAll names body values → IsRight (field_in o s) → field < length body
  got_within names body values s None e d r = absurd r
  got_within names body values s (Some w) e d r = field_within names field body values w d e

  pub load_within : (p : Place) (body : Body) → CanDo (loads to a field) heap cells → place_in (held cells a) ≡ Some p → StandsLooked heap None p (Some body) → field < length body.cells
  load_within p body can at looked =
      let v = can.view in
      let means = looks v heap cells can.agrees a p at (Some body) looked in
      got_within v.names body.cells means.0.values v.state (slice_get means.0.values field) refl means.3
      (subst IsRight (on_living v heap cells can.agrees a p at (λ n o. field_in (slice_get o.values field) v.state) means.0 means.1) can.right)

  pub load_dead : (p : Place) (new : HeapState) (after : List (Option Cell)) → place_in (held cells a) ≡ Some p → StandsLooked heap None p None → Follows (loads to a field) heap cells (effect.Trap DeadReference) new after
  load_dead p new after at looked v agrees right = on_dead v heap cells agrees a p at (λ n o. field_in (slice_get o.values field) v.state) (looks v heap cells agrees a p at None looked)

  pub load_found : (p : Place) (body : Body) (c : Cell) (after : List (Option Cell)) → place_in (held cells a) ≡ Some p → StandsLooked heap None p (Some body) → slice_get body.cells field ≡ Some c
      → after ≡ slice_set cells to (Some (lent_cell c)) → to < length cells → Follows (loads to a field) heap cells effect.Done heap after
  load_found p body c after at looked got is room v agrees right =
      let means = looks v heap cells agrees a p at (Some body) looked in
      let f = field_is v.names field body.cells means.0.values c means.3 got in
      let w = written_to v heap cells after to (lent_cell c) agrees (lent_knows v.names c f.value f.denotes) room is in
      record {
        view = v;
        value = Some (value_of v.names (lent_cell c));
        grows = same_names v v.state;
        steady = record { left = refl; spent = refl; pieces = refl; frozen = refl; quiet = refl };
        agrees = w.agrees;
        is =
            on_living v heap cells agrees a p at (λ n o. field_in (slice_get o.values field) v.state) means.0 means.1
            ∙ ap (λ o. field_in o v.state) f.got
            ∙ ap (λ x. gives (Some x) v.state) (lent_value v.names c f.value agrees.stands.at.apart f.denotes);
        registers = w.is;
      }

-- ---- a field that is set

module _ (to a field b : ℕ) (heap : HeapState) (cells : List (Option Cell)) where
  pub swap_value : CanDo (swaps to a field b) heap cells → (c : Cell) × (held cells b ≡ Some c)
  swap_value can = on_there can.view.names cells b (λ new. on_value (read (values_in can.view.names cells) a) (λ w. swap field w new can.view.state)) can.right

  -- the step, where this is the new value
  swap_is : (v : View) (c : Cell) → held cells b ≡ Some c → (swaps to a field b (values_in v.names cells) v.state).answer ≡ on_value (read (values_in v.names cells) a) (λ w. swap field w (value_of v.names c) v.state)
  swap_is v c e = on_held v.names cells b c (λ new. on_value (read (values_in v.names cells) a) (λ w. swap field w new v.state)) e

  pub swap_place : CanDo (swaps to a field b) heap cells → (p : Place) × (place_in (held cells a) ≡ Some p)
  swap_place can =
      let v = can.view in
      let c = swap_value can in
      leads v.names cells a v.state (λ n o. swapped_in (slice_get o.values field) n o field (value_of v.names c.0) v.state) (subst IsRight (swap_is v c.0 c.1) can.right)

  swapped_within : (names : List Place) (body : List Cell) (values : List Value) (n : ℕ) (o : Object) (new : Value) (s : State) (x : Option Value) → slice_get values field ≡ x → DenoteAll names body values → IsRight (swapped_in x n o field new s) → field < length body
  swapped_within names body values n o new s None e d r = absurd r
  swapped_within names body values n o new s (Some w) e d r = field_within names field body values w d e

  pub swap_within : (p : Place) (body : Body) → CanDo (swaps to a field b) heap cells → place_in (held cells a) ≡ Some p → StandsFound heap p (Some body) → field < length body.cells
  swap_within p body can at found =
      let v = can.view in
      let c = swap_value can in
      let means = finds v heap cells can.agrees a p at (Some body) found in
      let k = (λ (n : ℕ) (o : Object). swapped_in (slice_get o.values field) n o field (value_of v.names c.0) v.state) in
      swapped_within v.names body.cells means.0.values (name_at v.names p) means.0 (value_of v.names c.0) v.state (slice_get means.0.values field) refl means.3
      (subst IsRight (swap_is v c.0 c.1 ∙ on_living v heap cells can.agrees a p at k means.0 means.1) can.right)

  pub swap_dead : (p : Place) (new : HeapState) (after : List (Option Cell)) → place_in (held cells a) ≡ Some p → StandsFound heap p None → Follows (swaps to a field b) heap cells (effect.Trap DeadReference) new after
  swap_dead p new after at found v agrees right =
      let c = on_there v.names cells b (λ x. on_value (read (values_in v.names cells) a) (λ w. swap field w x v.state)) right in
      swap_is v c.0 c.1
      ∙ on_dead v heap cells agrees a p at (λ n o. swapped_in (slice_get o.values field) n o field (value_of v.names c.0) v.state) (finds v heap cells agrees a p at None found)

  pub swap_found : (p : Place) (body left : Body) (c was : Cell) (mid after : List (Option Cell)) → place_in (held cells a) ≡ Some p → look_in heap p ≡ Some body → StandsFound heap p (Some body) → StandsChanged heap p left
      → left.kind ≡ body.kind → left.cells ≡ slice_set body.cells field c → held cells b ≡ Some c → mid ≡ kept_cells (held cells b) b cells → slice_get body.cells field ≡ Some was
      → after ≡ slice_set mid to (Some was) → to < length cells → Follows (swaps to a field b) heap cells effect.Done (lends.changed heap p left) after
  swap_found p body left c was mid after at there found stands kind cells_are new kept got is room v agrees right =
      let n = name_at v.names p in
      let means = finds v heap cells agrees a p at (Some body) found in
      let o = means.0 in
      let x = value_of v.names c in
      let f = field_is v.names field body.cells o.values was means.3 got in
      let knows : Knows v.names (Some c) = subst (Knows v.names) new (agrees.known b) in
      let denote : DenoteAll v.names left.cells (slice_set o.values field x) =
      subst (λ cs. DenoteAll v.names cs (slice_set o.values field x)) (sym cells_are) (denote_set v.names field body.cells o.values c x means.3 (is_denoted v.names c knows)) in
      let s : State = changed n o (slice_set o.values field x) v.state in
      let u : View = record v { state = s } in
      let stood = changes v heap cells p o body left (slice_set o.values field x) agrees (known v heap cells agrees a p at) there stands means.1 (kind ∙ means.2) denote in
      let k = kept_from v heap cells mid b c agrees new kept in
      let size = kept_size cells mid b kept in
      let still : Agrees u (lends.changed heap p left) mid = record { stands = stood; regions = agrees.regions; known = k.agrees.known } in
      let w = written_to u (lends.changed heap p left) mid after to was still (denotes_known v.names was f.value f.denotes) (omega (arith, room, size)) is in
      record {
        view = u;
        value = Some (value_of v.names was);
        grows = same_names v s;
        steady = record { left = refl; spent = refl; pieces = refl; frozen = refl; quiet = refl };
        agrees = w.agrees;
        is =
            swap_is v c new
            ∙ on_living v heap cells agrees a p at (λ n o. swapped_in (slice_get o.values field) n o field x v.state) o means.1
            ∙ ap (λ y. swapped_in y n o field x v.state) f.got
            ∙ ap (λ y. gives (Some y) s) (sym (denotes_is v.names agrees.stands.at.apart was f.value f.denotes));
        registers = w.is ∙ ap (λ rs. put rs to (Some (value_of v.names was))) k.is;
      }
