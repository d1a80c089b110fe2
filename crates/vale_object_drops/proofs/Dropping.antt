-- The instruction that destroys, and the values of an object that has died.
use Rattle.std.proofs.Common.{◌≡◌, ℕ, ◌+◌, ◌-◌, ◌<◌, ◌≤◌, List, [], ◌∷◌, length, map, take, drop, Option, Some, None, refl, sym, ap, subst, ◌∙◌, arith}
use Rattle.std.specs.Prelude.{IfOk, Result, slice_set}
use Rattle.std.proofs.lemmas.Result.{IfOk-weaker}
use Rattle.std.specs.List.{AllByRecursion}
use Rattle.std.proofs.Math.Seq.{take-set-lt}
use Rattle.std.proofs.lemmas.List.{drop-set-add, length-drop, length-set, length-take-le, take-set-le, take-take}
use Rattle.vale_base.specs.declared.spot.Spot.{Spot}
use Rattle.vale_state_spec.specs.State.{State, drop_frame, trap_under}
use Rattle.vale_code.specs.Destroy as destruction
use Rattle.vale_code.specs.Frames as meaning
use Rattle.vale_code.specs.Frames.{Config, Next, Over, leave, on, under}
use Rattle.vale_code.specs.Instructions.{behind, with_value}
use Rattle.vale_code.specs.Kinds.{kind_text}
use Rattle.vale_code.specs.Parts.{Parts}
use Rattle.vale_code.specs.Registers.{put}
use Rattle.vale_registers.specs.Passing.{from_base}
use Rattle.vale_registers.specs.Texts.{text_at}
use Rattle.vale_heap.specs.HeapState.{HeapState}
use Rattle.vale_heap.specs.declared.body.Cell.{Cell}
use Rattle.vale_heap.specs.declared.body.Cell.TheVariants.{Int, Truth, Text, Own, Ref, Iso}
use Rattle.vale_heap.specs.declared.body.Place.{Place}
use Rattle.vale_turn.specs.View.{IsRight}
use Rattle.vale_object_cells.specs.Cells.{cells_from, cells_in, held}
use Rattle.vale_object_cells.specs.Names.{AllKnown, Knows, value_in, value_of, values_in}
use Rattle.vale_object_cells.specs.declared.register.Register.{Register}
use Rattle.vale_object_cells.proofs.Holding.{as_many, put_register, within}
use Rattle.vale_object_cells.proofs.Naming.{known_put, put_values, read_values}
use Rattle.vale_object_steps.specs.Drops.{OwnedCell, first_owned_cell, owned_by}
use Rattle.vale_object_steps.specs.Views.{View}
use Rattle.vale_object_steps.proofs.DropLaws.{owned_is}
use Rattle.vale_object_steps.proofs.FieldLaws.{same_names}
use Rattle.vale_object_passing.specs.Passing.{cells_of}
use Rattle.vale_object_frames.specs.Frames.{AreKnown, Lie, active_of, emptying_of, frames_in}
use Rattle.vale_object_frames.specs.Stacks.{DropsNext, HasDropped, rest_of}
use Rattle.vale_object_frames.specs.declared.frame.Active.{Active}
use Rattle.vale_object_frames.specs.declared.frame.Frame.{Frame}
use Rattle.vale_object_frames.specs.declared.frame.Frame.TheVariants as frame
use Rattle.vale_object_frames.specs.declared.frame.Leftover.{Leftover}
use Rattle.vale_object_flow.specs.Flow.{Comes, GoesOn, Rejoins, Runs, active, all_frames, below, frames_of, on_frames, row_of}
use Rattle.vale_object_flow.specs.declared.control.Came.{Came}
use Rattle.vale_object_flow.specs.declared.control.Came.TheVariants as came
use Rattle.vale_object_flow.specs.declared.control.Control.{Control}
use Rattle.vale_object_flow.proofs.Calling.{gone_on, steady}
use Rattle.vale_object_drops.specs.Destroying.{CanDestroy, CanDrop, CanDropNext, Destroys, Drops, DropsNextOne, FitsNext, FitsRegister, FitsRoots, HoldsOwned, IsLifted, IsOwned, destroy_next, drop_step, next_step, own_cell, stack_of}

-- a trap tells the same over frames with the same calls
told_alike : (code : Parts) (v : View) (fs gs : List meaning.Frame) (told : Came) (next : Next) (heap : HeapState) (c : Control) (left : ℕ) → under fs ≡ under gs → Comes code v fs told next heap c left → Comes code v gs told next heap c left
told_alike code v fs gs came.Running next heap c left e g = g
told_alike code v fs gs came.Dropping next heap c left e g = g
told_alike code v fs gs (came.Trap kind at) next heap c left e g = (g.0, g.1, g.2 ∙ ap (λ calls. Over (trap_under kind at calls) None g.0) e)
told_alike code v fs gs came.Done next heap c left e g = g
told_alike code v fs gs came.Cut next heap c left e g = g

-- ---- the instruction

pub neither : (cell : Cell) → IsOwned cell → ((p : Place) → cell ≡ Own p → ⊥) → ((p : Place) → cell ≡ Iso p → ⊥) → ⊥
neither (Own p) o a b = a p refl
neither (Iso p) o a b = b p refl
neither (Int z) o a b = o
neither (Truth t) o a b = o
neither (Text t) o a b = o
neither (Ref p) o a b = o

one_cell : (o : Option Cell) (c d : Cell) → o ≡ Some c → o ≡ Some d → c ≡ d
one_cell o c d e h = let x : Some c ≡ Some d = sym e ∙ h in cc

owned_there : (code : Parts) (names : List Place) (at : Spot) (fs : List meaning.Frame) (s : State) (o : Option Cell) → IsRight (with_value (value_in names o) s (λ w. destruction.destroy code w at fs s)) → (cell : Cell) × (o ≡ Some cell) × IsOwned cell
owned_there code names at fs s None r = absurd r
owned_there code names at fs s (Some (Own p)) r = (Own p, refl, tt)
owned_there code names at fs s (Some (Iso p)) r = (Iso p, refl, tt)
owned_there code names at fs s (Some (Int z)) r = absurd r
owned_there code names at fs s (Some (Truth b)) r = absurd r
owned_there code names at fs s (Some (Text t)) r = absurd r
owned_there code names at fs s (Some (Ref p)) r = absurd r

module _ (code : Parts) (depth : ℕ) (heap : HeapState) (old : Control) (left : ℕ) (a : ℕ) (at : Spot) where
  abbrev base : ℕ
  base = old.top.base

  abbrev row : List Register
  row = old.registers.items

  -- what the instruction leads to, by the value of its register
  by_value : (last : Config → State) (v : View) → drop_step code last v old a at ≡ with_value (value_in v.names (own_cell old a)) v.state (λ w. destruction.destroy code w at (behind (active code v old) (put (active code v old).registers a None) ∷ below code v old) v.state)
  by_value last v = ap (λ o. with_value o v.state (λ w. destruction.destroy code w at (behind (active code v old) (put (active code v old).registers a None) ∷ below code v old) v.state)) (read_values v.names (cells_of base old.end old.texts row) a)

  pub holds_owned : CanDrop code depth heap old left a at → HoldsOwned (drop base (row_of old)) a
  holds_owned can =
      let v = can.view in
      let x = owned_there code v.names at (behind (active code v old) (put (active code v old).registers a None) ∷ below code v old) v.state (own_cell old a) (subst IsRight (by_value can.last v) can.right) in
      (from_base base (text_at old.texts), x.0, x.1, x.2)

  module _ (le : base ≤ old.end) (few : old.end ≤ length row) (cell : Cell) (mid : Control) (lifted : IsLifted base old.end a row cell mid.registers.items) (texts_are : mid.texts ≡ old.texts) (end_is : mid.end ≡ old.end) (stack_is : mid.below ≡ frame.Running (gone_on old.top) ∷ old.below) where
    abbrev now : List Register
    now = take old.end mid.registers.items

    abbrev frames : List Frame
    frames = frame.Running (gone_on old.top) ∷ old.below

    held_it : own_cell old a ≡ Some cell
    held_it = lifted.held_it (from_base base (text_at old.texts))

    own_size : length (drop base (row_of old)) ≡ old.end - base
    own_size = length-drop base (row_of old) ∙ ap (λ n. n - base) (length-take-le old.end row few)

    register_there : a < old.end - base
    register_there = let lt = within (from_base base (text_at old.texts)) (drop base (row_of old)) a cell held_it in omega (arith, lt, own_size)

    now_size : length now ≡ old.end
    now_size = length-take-le old.end mid.registers.items (let size = ap length lifted.is ∙ length-set row (base + a) lifted.empty in omega (arith, size, few))

    own_now : drop base now ≡ slice_set (drop base (row_of old)) a lifted.empty
    own_now =
        ap (λ l. drop base (take old.end l)) lifted.is
        ∙ ap (drop base) (take-set-lt old.end row (base + a) lifted.empty (omega (arith, register_there)))
        ∙ drop-set-add base (row_of old) a lifted.empty

    lower_now : take base now ≡ take base (row_of old)
    lower_now =
        take-take base old.end mid.registers.items le
        ∙ ap (take base) lifted.is
        ∙ take-set-le base row (base + a) lifted.empty (omega arith)
        ∙ sym (take-take base old.end row le)

    cells_now : cells_from base old.texts (drop base now) ≡ slice_set (cells_of base old.end old.texts row) a None
    cells_now =
        let t = from_base base (text_at old.texts) in
        ap (cells_in t) own_now
        ∙ put_register t t (drop base (row_of old)) a lifted.empty (λ i n. refl) (omega (arith, own_size, register_there))
        ∙ ap (slice_set (cells_of base old.end old.texts row) a) (lifted.holds_nothing (t a))

    cells_many : a < length (cells_of base old.end old.texts row)
    cells_many = omega (arith, as_many (from_base base (text_at old.texts)) (drop base (row_of old)), own_size, register_there)

    module _ (v : View) (runs : Runs code v heap (all_frames old) old.texts (row_of old) left) where
      frames_now : frames_in code v.names frames old.texts now ≡ behind (active code v old) (put (active code v old).registers a None) ∷ below code v old
      frames_now =
          let values = ap (values_in v.names) cells_now ∙ put_values v.names (cells_of base old.end old.texts row) a None cells_many in
          (λ i. meaning.Running (active_of code (gone_on old.top) (values i)) ∷ frames_in code v.names old.below old.texts (lower_now i))

      stack_now : stack_of code v mid ≡ behind (active code v old) (put (active code v old).registers a None) ∷ below code v old
      stack_now = (λ i. frames_in code v.names (stack_is i) (texts_are i) (take (end_is i) mid.registers.items)) ∙ frames_now

      pub lifted_is : (last : Config → State) → drop_step code last v old a at ≡ destroy_next code v mid cell at
      lifted_is last =
          by_value last v
          ∙ ap (λ o. with_value (value_in v.names o) v.state (λ w. destruction.destroy code w at (behind (active code v old) (put (active code v old).registers a None) ∷ below code v old) v.state)) held_it
          ∙ ap (λ fs. destruction.destroy code (value_of v.names cell) at fs v.state) (sym stack_now)

      runs_lifted : Runs code v heap mid.below mid.texts (row_of mid) left
      runs_lifted =
          let runs_now : Runs code v heap frames old.texts now left =
          record {
            stands = runs.stands;
            regions = runs.regions;
            known = (
              subst (AllKnown v.names) (sym cells_now) (known_put v.names (cells_of base old.end old.texts row) a None runs.known.0 (λ q e. absurd (let x : ⊥ = cc in x))),
              subst (AreKnown v.names old.below old.texts) (sym lower_now) runs.known.1,
            );
            ticks_left = runs.ticks_left;
            lie = subst (Lie code frames) (length-take-le old.end row few ∙ sym now_size) (runs.lie.0, runs.lie.1, runs.lie.2);
          } in
          let row_is : now ≡ row_of mid = ap (λ n. take n mid.registers.items) (sym end_is) in
          subst (λ fs. Runs code v heap fs mid.texts (row_of mid) left) (sym stack_is)
          (subst (λ t. Runs code v heap frames t (row_of mid) left) (sym texts_are) (subst (λ r. Runs code v heap frames old.texts r left) row_is runs_now))

      lifted_known : Knows v.names (Some cell)
      lifted_known = subst (Knows v.names) held_it (runs.known.0 a)

      as_deep : depth ≡ length (all_frames old) + v.state.frozen → depth ≡ length mid.below + v.state.frozen
      as_deep deep = let size = ap length stack_is in omega (arith, deep, size)

      pub same_calls : under (stack_of code v mid) ≡ under (frames_of code v old)
      same_calls = ap under stack_now

    pub can_destroy_lifted : CanDrop code depth heap old left a at → CanDestroy code depth heap mid left cell at
    can_destroy_lifted can = record {
      view = can.view;
      runs = runs_lifted can.view can.runs;
      known = lifted_known can.view can.runs;
      deep = as_deep can.view can.runs can.deep;
      right = subst IsRight (lifted_is can.view can.runs can.last) can.right;
    }

    pub drops_lifted : (told : Came) (after : HeapState) (new : Control) (new_left : ℕ) → Destroys code depth heap mid left cell at told after new new_left → Drops code depth heap old left a at told after new new_left
    drops_lifted told after new new_left d last v runs deep right =
        let is = lifted_is v runs last in
        subst (λ next. Comes code v (frames_of code v old) told next after new new_left) (sym is)
        (told_alike code v (stack_of code v mid) (frames_of code v old) told (destroy_next code v mid cell at) after new new_left (same_calls v runs)
        (d v (runs_lifted v runs) (lifted_known v runs) (as_deep v runs deep) (subst IsRight is right)))

    pub can_destroy_as : (same : Cell) → cell ≡ same → CanDrop code depth heap old left a at → CanDestroy code depth heap mid left same at
    can_destroy_as same e can = subst (λ c. CanDestroy code depth heap mid left c at) e (can_destroy_lifted can)

    pub drops_as : {E : Type 0} (same : Cell) → cell ≡ same → (r : Result Came E) (after : HeapState) (new : Control) (new_left : ℕ) → IfOk r (λ told. Destroys code depth heap mid left same at told after new new_left)
        → IfOk r (λ told. Drops code depth heap old left a at told after new new_left)
    drops_as same e r after new new_left h =
        IfOk-weaker r (λ told. Destroys code depth heap mid left same at told after new new_left) (λ told. Drops code depth heap old left a at told after new new_left)
        (λ told d. drops_lifted told after new new_left (subst (λ c. Destroys code depth heap mid left c at told after new new_left) (sym e) d)) h

  pub fits_as : (cell : Cell) (new : List Register) → IsLifted base old.end a row cell new → (same : Cell) → cell ≡ same → FitsRegister heap old a → FitsRoots heap same
  fits_as cell new lifted same e fits = subst (FitsRoots heap) e (fits cell (lifted.held_it (from_base base (text_at old.texts))))

  pub lifted_owned : (cell : Cell) (new : List Register) → IsLifted base old.end a row cell new → CanDrop code depth heap old left a at → IsOwned cell
  lifted_owned cell new lifted can =
      let x = holds_owned can in
      let same : x.1 ≡ cell = one_cell (held (cells_in x.0 (drop base (row_of old))) a) x.1 cell x.2 (lifted.held_it x.0) in
      subst IsOwned same x.3

-- ---- the next value of a destruction

first_known : (names : List Place) (cells : List Cell) (o : OwnedCell) → first_owned_cell cells ≡ Some o → AllByRecursion (λ c. Knows names (Some c)) cells → Knows names (Some o.first) × AllByRecursion (λ c. Knows names (Some c)) o.rest
first_known names [] o e k = absurd (let x : ⊥ = cc in x)
first_known names (Own p ∷ cs) o e k =
    let is : o ≡ record { first = Own p; rest = cs } = cc in
    subst (λ (x : OwnedCell). Knows names (Some x.first) × AllByRecursion (λ c. Knows names (Some c)) x.rest) (sym is) (k.0, k.1)
first_known names (Iso p ∷ cs) o e k =
    let is : o ≡ record { first = Iso p; rest = cs } = cc in
    subst (λ (x : OwnedCell). Knows names (Some x.first) × AllByRecursion (λ c. Knows names (Some c)) x.rest) (sym is) (k.0, k.1)
first_known names (Int z ∷ cs) o e k = first_known names cs o e k.1
first_known names (Truth b ∷ cs) o e k = first_known names cs o e k.1
first_known names (Text t ∷ cs) o e k = first_known names cs o e k.1
first_known names (Ref p ∷ cs) o e k = first_known names cs o e k.1

module _ (code : Parts) (depth : ℕ) (heap : HeapState) (old : Control) (left : ℕ) where
  module _ (cell : Cell) (at : Spot) (mid : Control) (registers_are : mid.registers ≡ old.registers) (texts_are : mid.texts ≡ old.texts) (end_is : mid.end ≡ old.end) (d : DropsNext cell at old.below mid.below) where
    abbrev was : Leftover
    was = d.drops.was

    abbrev later : Leftover
    later = d.drops.now

    was_is : old.below ≡ frame.Dropping was ∷ d.below
    was_is = d.old_is ∙ ap (λ f. f ∷ d.below) d.drops.old_is

    later_is : mid.below ≡ frame.Dropping later ∷ d.below
    later_is = d.new_is ∙ ap (λ f. f ∷ d.below) d.drops.new_is

    row_is : row_of mid ≡ row_of old
    row_is = (λ i. take (end_is i) (registers_are i).items)

    module _ (v : View) where
      abbrev rest : List meaning.Frame
      rest = frames_in code v.names d.below old.texts (row_of old)

      stack_was : stack_of code v old ≡ meaning.Dropping (emptying_of code v.names was) ∷ rest
      stack_was = ap (λ fs. frames_in code v.names fs old.texts (row_of old)) was_is

      stack_later : stack_of code v mid ≡ meaning.Dropping (emptying_of code v.names later) ∷ rest
      stack_later = (λ i. frames_in code v.names (later_is i) (texts_are i) (row_is i))

      at_alike : later.at ≡ was.at
      at_alike = d.drops.at_is ∙ sym d.drops.at_was

      emptying_later : emptying_of code v.names later ≡ record (emptying_of code v.names was) { rest = map (value_of v.names) (rest_of later) }
      emptying_later = (λ i. record { call = drop_frame (kind_text code (d.drops.kind_is i)) (at_alike i); rest = map (value_of v.names) (rest_of later) })

      pub next_is : next_step code (stack_of code v old) v.state ≡ destroy_next code v mid cell at
      next_is =
          ap (λ fs. next_step code fs v.state) stack_was
          ∙ ap (λ o. destruction.drop_rest code o (emptying_of code v.names was) rest v.state) (owned_is v.names (rest_of was) ∙ ap (owned_by v.names) d.drops.next)
          ∙ ap (λ x. destruction.destroy code (value_of v.names cell) x (meaning.Dropping (record (emptying_of code v.names was) { rest = map (value_of v.names) (rest_of later) }) ∷ rest) v.state) d.drops.at_was
          ∙ ap (λ f. destruction.destroy code (value_of v.names cell) at (meaning.Dropping f ∷ rest) v.state) (sym emptying_later)
          ∙ ap (λ fs. destruction.destroy code (value_of v.names cell) at fs v.state) (sym stack_later)

      calls_alike : under (stack_of code v mid) ≡ under (stack_of code v old)
      calls_alike = ap under stack_later ∙ ap (λ f. under (meaning.Dropping f ∷ rest)) emptying_later ∙ sym (ap under stack_was)

      module _ (runs : Runs code v heap old.below old.texts (row_of old) left) where
        known_was : AreKnown v.names (frame.Dropping was ∷ d.below) old.texts (row_of old)
        known_was = subst (λ fs. AreKnown v.names fs old.texts (row_of old)) was_is runs.known

        knows : Knows v.names (Some cell) × AllByRecursion (λ c. Knows v.names (Some c)) (rest_of later)
        knows = first_known v.names (rest_of was) (record { first = cell; rest = rest_of later }) d.drops.next known_was.0

        runs_next : Runs code v heap mid.below mid.texts (row_of mid) left
        runs_next =
            let lie : Lie code (frame.Dropping was ∷ d.below) (length (row_of old)) = subst (λ fs. Lie code fs (length (row_of old))) was_is runs.lie in
            let runs_later : Runs code v heap (frame.Dropping later ∷ d.below) old.texts (row_of old) left = record { stands = runs.stands; regions = runs.regions; known = (knows.1, known_was.1); ticks_left = runs.ticks_left; lie = lie } in
            subst (λ fs. Runs code v heap fs mid.texts (row_of mid) left) (sym later_is)
            (subst (λ t. Runs code v heap (frame.Dropping later ∷ d.below) t (row_of mid) left) (sym texts_are) (subst (λ r. Runs code v heap (frame.Dropping later ∷ d.below) old.texts r left) (sym row_is) runs_later))

    still_deep : (frozen : ℕ) → depth ≡ length old.below + frozen → depth ≡ length mid.below + frozen
    still_deep frozen deep = let size : length mid.below ≡ length old.below = ap length later_is ∙ sym (ap length was_is) in omega (arith, deep, size)

    pub can_destroy_next : CanDropNext code depth heap old left → CanDestroy code depth heap mid left cell at
    can_destroy_next can = record {
      view = can.view;
      runs = runs_next can.view can.runs;
      known = (knows can.view can.runs).0;
      deep = still_deep can.view.state.frozen can.deep;
      right = subst IsRight (next_is can.view) can.right;
    }

    pub can_destroy_next_as : (same : Cell) → cell ≡ same → CanDropNext code depth heap old left → CanDestroy code depth heap mid left same at
    can_destroy_next_as same e can = subst (λ c. CanDestroy code depth heap mid left c at) e (can_destroy_next can)

    pub drops_one_more : (told : Came) (after : HeapState) (new : Control) (new_left : ℕ) → Destroys code depth heap mid left cell at told after new new_left → DropsNextOne code depth heap old left told after new new_left
    drops_one_more told after new new_left g v runs deep right =
        subst (λ next. Comes code v (stack_of code v old) told next after new new_left) (sym (next_is v))
        (told_alike code v (stack_of code v mid) (stack_of code v old) told (destroy_next code v mid cell at) after new new_left (calls_alike v)
        (g v (runs_next v runs) (knows v runs).0 (still_deep v.state.frozen deep) (subst IsRight (next_is v) right)))

    pub drops_next_as : {E : Type 0} (same : Cell) → cell ≡ same → (r : Result Came E) (after : HeapState) (new : Control) (new_left : ℕ) → IfOk r (λ told. Destroys code depth heap mid left same at told after new new_left)
        → IfOk r (λ told. DropsNextOne code depth heap old left told after new new_left)
    drops_next_as same e r after new new_left h =
        IfOk-weaker r (λ told. Destroys code depth heap mid left same at told after new new_left) (λ told. DropsNextOne code depth heap old left told after new new_left)
        (λ told d. drops_one_more told after new new_left (subst (λ c. Destroys code depth heap mid left c at told after new new_left) (sym e) d)) h

    fits_first : (fs : List Frame) → fs ≡ frame.Dropping was ∷ d.below → FitsNext heap fs → FitsNext heap (frame.Dropping was ∷ d.below)
    fits_first fs e f = subst (FitsNext heap) e f

    pub fits_next_as : (same : Cell) → cell ≡ same → FitsNext heap old.below → FitsRoots heap same
    fits_next_as same e f = subst (FitsRoots heap) e (fits_first old.below was_is f (record { first = cell; rest = rest_of later }) d.drops.next)

    owned_first : (cells : List Cell) (o : OwnedCell) → first_owned_cell cells ≡ Some o → IsOwned o.first
    owned_first [] o e = absurd (let x : ⊥ = cc in x)
    owned_first (Own p ∷ cs) o e = let is : o ≡ record { first = Own p; rest = cs } = cc in subst (λ (x : OwnedCell). IsOwned x.first) (sym is) tt
    owned_first (Iso p ∷ cs) o e = let is : o ≡ record { first = Iso p; rest = cs } = cc in subst (λ (x : OwnedCell). IsOwned x.first) (sym is) tt
    owned_first (Int z ∷ cs) o e = owned_first cs o e
    owned_first (Truth b ∷ cs) o e = owned_first cs o e
    owned_first (Text t ∷ cs) o e = owned_first cs o e
    owned_first (Ref p ∷ cs) o e = owned_first cs o e

    pub next_owned_is : IsOwned cell
    next_owned_is = owned_first (rest_of was) (record { first = cell; rest = rest_of later }) d.drops.next

  -- ---- nothing is left

  left_plainly : (names : List Place) (fs : List Frame) (texts : List (List ℕ)) (rs : List Register) (s : State) → leave (frames_in code names fs texts rs) None None s ≡ on_frames (frames_in code names fs texts rs) s
  left_plainly names [] texts rs s = refl
  left_plainly names (frame.Running x ∷ fs) texts rs s = refl
  left_plainly names (frame.Dropping l ∷ fs) texts rs s = refl

  module _ (fs : List Frame) (d : HasDropped old.below fs) (v : View) (runs : Runs code v heap old.below old.texts (row_of old) left) where
    abbrev gone : Leftover
    gone = d.none.was

    gone_is : old.below ≡ frame.Dropping gone ∷ fs
    gone_is = d.is ∙ ap (λ f. f ∷ fs) d.none.old_is

    left_is : next_step code (stack_of code v old) v.state ≡ on_frames (frames_in code v.names fs old.texts (row_of old)) v.state
    left_is =
        ap (λ gs. next_step code (frames_in code v.names gs old.texts (row_of old)) v.state) gone_is
        ∙ ap (λ o. destruction.drop_rest code o (emptying_of code v.names gone) (frames_in code v.names fs old.texts (row_of old)) v.state) (owned_is v.names (rest_of gone) ∙ ap (owned_by v.names) d.none.none)
        ∙ left_plainly v.names fs old.texts (row_of old) v.state

    went : GoesOn code v (next_step code (stack_of code v old) v.state) heap fs old.texts (row_of old) left
    went =
        let known : AreKnown v.names (frame.Dropping gone ∷ fs) old.texts (row_of old) = subst (λ gs. AreKnown v.names gs old.texts (row_of old)) gone_is runs.known in
        let lie : Lie code (frame.Dropping gone ∷ fs) (length (row_of old)) = subst (λ gs. Lie code gs (length (row_of old))) gone_is runs.lie in
        record {
          view = v;
          grows = same_names v v.state;
          runs = record { stands = runs.stands; regions = runs.regions; known = known.1; ticks_left = runs.ticks_left; lie = lie };
          ticks = refl;
          pieces = refl;
          frozen = refl;
          is = left_is;
        }

    pub rejoined : (told : Came) (gs : List Frame) (goes : Active) → Rejoins fs told gs goes
        → Comes code v (stack_of code v old) told (next_step code (stack_of code v old) v.state) heap (record { registers = old.registers; texts = old.texts; end = old.end; top = goes; below = gs }) left
    rejoined came.Running gs goes h = subst (λ ks. GoesOn code v (next_step code (stack_of code v old) v.state) heap ks old.texts (row_of old) left) h went
    rejoined came.Dropping gs goes h = subst (λ ks. GoesOn code v (next_step code (stack_of code v old) v.state) heap ks old.texts (row_of old) left) (sym h.1) went
    rejoined came.Done gs goes h = (None, v.state, steady v.state, left_is ∙ ap (λ ks. on_frames (frames_in code v.names ks old.texts (row_of old)) v.state) h)
    rejoined (came.Trap kind at) gs goes h = absurd h
    rejoined came.Cut gs goes h = absurd h
