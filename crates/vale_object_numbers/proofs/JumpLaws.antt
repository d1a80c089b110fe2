-- Jumps and ticks.
use Rattle.std.proofs.Common.{◌≡◌, ℕ, ◌+◌, ◌-◌, ◌<◌, List, Bool, true, false, Option, Some, None, refl, sym, ap, subst, ◌∙◌, arith}
use Rattle.std.specs.Prelude.{◌||◌, nat_lt, slice_get}
use Rattle.vale_state_spec.specs.Outcome.{Cut}
use Rattle.vale_state_spec.specs.State.{State}
use Rattle.vale_code.specs.Frames.{Next, On, Over, after_tick}
use Rattle.vale_code.specs.Instructions.{at_place, instruction_in, is_tick, jump, jump_by, jump_unless, onward, with_truth}
use Rattle.vale_code.specs.Instructions as meaning
use Rattle.vale_code.specs.declared.instr.Instr.{Instr}
use Rattle.vale_code.specs.declared.instr.Instr.TheVariants as i
use Rattle.vale_heap.specs.HeapState.{HeapState}
use Rattle.vale_heap.specs.declared.body.Cell.{Cell}
use Rattle.vale_heap.specs.declared.body.Cell.TheVariants.{Int, Truth, Text, Own, Ref, Iso}
use Rattle.vale_heap.specs.declared.body.Place.{Place}
use Rattle.vale_turn.specs.View.{IsBody, IsRight}
use Rattle.vale_turn.specs.declared.stop.Stop.{Stop}
use Rattle.vale_turn.specs.declared.stop.Stop.TheVariants as stop
use Rattle.vale_object_cells.specs.Cells.{HoldsTruth, cells_in, held}
use Rattle.vale_object_cells.specs.Names.{value_in}
use Rattle.vale_object_cells.specs.declared.register.Register.{Register}
use Rattle.vale_object_cells.proofs.Naming.{read_values}
use Rattle.vale_object_steps.specs.Views.{View}
use Rattle.vale_object_steps.proofs.FieldLaws.{same_names}
use Rattle.vale_object_turn.specs.Destroying.{after_tick_of}
use Rattle.vale_object_turn.specs.Steps.{GoesOn, Runs, Scene, Stepped, active, config, next_of}
use Rattle.vale_object_turn.proofs.BirthLaws.{not_ticked, still_agrees, ticked_on}
use Rattle.vale_object_numbers.specs.Numbers.{HasRuleOf, Leaps, ObeysOf}

module _ (heap : HeapState) (cells : List (Option Cell)) (place left : ℕ) (s : Scene) (v : View) (runs : Runs v heap cells left) where
  -- the function goes on at a place, with no tick and with one
  pub placed : (target : ℕ) (next : Next) → next ≡ On (config s v target cells) → GoesOn s v next heap cells target left
  placed target next is = record { view = v; grows = same_names v v.state; runs = runs; ticks = refl; pieces = refl; frozen = refl; is = is }

  pub placed_by_tick : (target : ℕ) (next : Next) → 0 < left → next ≡ after_tick v.state (λ t. at_place (active s v place cells) target s.below t) → GoesOn s v next heap cells target (left - 1)
  placed_by_tick target next some is =
      let w = after_tick_of v in
      let now : 0 < v.state.left = subst (λ k. 0 < k) (sym runs.ticks_left) some in
      record {
        view = w;
        grows = same_names v w.state;
        runs = record { agrees = still_agrees v heap cells runs.agrees; ticks_left = ap (λ k. k - 1) runs.ticks_left };
        ticks = let total : (v.state.spent + 1) + (v.state.left - 1) ≡ v.state.spent + v.state.left = omega (arith, now) in total;
        pieces = refl;
        frozen = refl;
        is = is ∙ ticked_on v.state (λ t. at_place (active s v place cells) target s.below t) now;
      }

  pub cut_by_tick : (go : State → Next) (next : Next) → left ≡ 0 → next ≡ after_tick v.state go → next ≡ Over Cut None v.state
  cut_by_tick go next none is = is ∙ not_ticked v.state go (runs.ticks_left ∙ none)

module _ (body : List Instr) (registers : List Register) (target place left : ℕ) where
  abbrev free : Bool
  free = nat_lt place target || is_tick (slice_get body target)

  jump_is : (b : Bool) → free ≡ b → (t : ℕ → List ℕ) (s : Scene) (v : View) → IsBody s.code s.function body
      → jump s.code (active s v place (cells_in t registers)) target s.below v.state ≡ jump_by b (active s v place (cells_in t registers)) target s.below v.state
  jump_is b e t s v is =
      let f = active s v place (cells_in t registers) in
      let fetched : meaning.fetch s.code s.function target ≡ slice_get body target = ap (λ o. instruction_in o target) is.found ∙ ap (λ l. slice_get l target) is.is in
      ap (λ o. jump_by (nat_lt place target || is_tick o) f target s.below v.state) fetched ∙ ap (λ x. jump_by x f target s.below v.state) e

  pub leaps_free : free ≡ true → Leaps body registers target place left stop.Going target left
  leaps_free e t heap s v is runs = placed heap (cells_in t registers) place left s v runs target _ (jump_is true e t s v is)

  pub leaps_by_tick : free ≡ false → 0 < left → Leaps body registers target place left stop.Going target (left - 1)
  leaps_by_tick e some t heap s v is runs = placed_by_tick heap (cells_in t registers) place left s v runs target _ some (jump_is false e t s v is)

  pub leaps_cut : free ≡ false → left ≡ 0 → Leaps body registers target place left stop.Cut place left
  leaps_cut e none t heap s v is runs = cut_by_tick heap (cells_in t registers) place left s v runs (λ x. at_place (active s v place (cells_in t registers)) target s.below x) _ none (jump_is false e t s v is)

-- ---- a condition

truth_there : (names : List Place) (o : Option Cell) (s : State) (go : Bool → Next) → IsRight (with_truth (value_in names o) s go) → (b : Bool) × (o ≡ Some (Truth b))
truth_there names None s go r = absurd r
truth_there names (Some (Truth b)) s go r = (b, refl)
truth_there names (Some (Int z)) s go r = absurd r
truth_there names (Some (Text t)) s go r = absurd r
truth_there names (Some (Own p)) s go r = absurd r
truth_there names (Some (Ref p)) s go r = absurd r
truth_there names (Some (Iso p)) s go r = absurd r

module _ (body : List Instr) (registers : List Register) (place left : ℕ) (instr : Instr) (a target : ℕ) (is : instr ≡ i.Unless a target) where
  pub condition_there : HasRuleOf body registers place left instr → HoldsTruth registers a
  condition_there h =
      let k : HasRuleOf body registers place left (i.Unless a target) = subst (HasRuleOf body registers place left) is h in
      let r = k.rule in
      let cells = cells_in k.text registers in
      let f = active r.scene r.view place cells in
      let s = r.view.state in
      let x = truth_there r.view.names (held cells a) s (jump_unless r.scene.code f target r.scene.below s) (subst (λ o. IsRight (with_truth o s (jump_unless r.scene.code f target r.scene.below s))) (read_values r.view.names cells a) r.right) in
      (k.text, x.0, x.1)

  condition_is : (b : Bool) → ((t : ℕ → List ℕ) → held (cells_in t registers) a ≡ Some (Truth b)) → (t : ℕ → List ℕ) (s : Scene) (v : View)
      → next_of s v place (cells_in t registers) (i.Unless a target) ≡ jump_unless s.code (active s v place (cells_in t registers)) target s.below v.state b
  condition_is b holds t s v =
      ap (λ o. with_truth o v.state (jump_unless s.code (active s v place (cells_in t registers)) target s.below v.state))
      (read_values v.names (cells_in t registers) a ∙ ap (value_in v.names) (holds t))

  pub goes_through : (b : Bool) → b ≡ true → ((t : ℕ → List ℕ) → held (cells_in t registers) a ≡ Some (Truth b)) → ObeysOf body instr registers place left stop.Going (place + 1) left
  goes_through b e holds = subst (λ j. ObeysOf body j registers place left stop.Going (place + 1) left) (sym is)
      (λ t heap s v in_body runs right. placed heap (cells_in t registers) place left s v runs (place + 1) (next_of s v place (cells_in t registers) (i.Unless a target))
      (condition_is b holds t s v ∙ ap (jump_unless s.code (active s v place (cells_in t registers)) target s.below v.state) e))

  pub goes_by_jump : (b : Bool) (told : Stop) (new_place new_left : ℕ) → b ≡ false → ((t : ℕ → List ℕ) → held (cells_in t registers) a ≡ Some (Truth b)) → Leaps body registers target place left told new_place new_left → ObeysOf body instr registers place left told new_place new_left
  goes_by_jump b told new_place new_left e holds leaps = subst (λ j. ObeysOf body j registers place left told new_place new_left) (sym is)
      (λ t heap s v in_body runs right. subst (λ next. Stepped s v place (cells_in t registers) told next heap (cells_in t registers) new_place new_left)
      (sym (condition_is b holds t s v ∙ ap (jump_unless s.code (active s v place (cells_in t registers)) target s.below v.state) e)) (leaps t heap s v in_body runs))

-- ---- the instructions

module _ (body : List Instr) (registers : List Register) (place left : ℕ) (instr : Instr) where
  pub jumps : (target : ℕ) (told : Stop) (new_place new_left : ℕ) → instr ≡ i.Jump target → Leaps body registers target place left told new_place new_left → ObeysOf body instr registers place left told new_place new_left
  jumps target told new_place new_left is leaps = subst (λ j. ObeysOf body j registers place left told new_place new_left) (sym is) (λ t heap s v in_body runs right. leaps t heap s v in_body runs)

  pub ticks_on : instr ≡ i.Tick → 0 < left → ObeysOf body instr registers place left stop.Going (place + 1) (left - 1)
  ticks_on is some = subst (λ j. ObeysOf body j registers place left stop.Going (place + 1) (left - 1)) (sym is)
      (λ t heap s v in_body runs right. placed_by_tick heap (cells_in t registers) place left s v runs (place + 1) (next_of s v place (cells_in t registers) i.Tick) some refl)

  pub ticks_out : (new_place new_left : ℕ) → instr ≡ i.Tick → left ≡ 0 → ObeysOf body instr registers place left stop.Cut new_place new_left
  ticks_out new_place new_left is none = subst (λ j. ObeysOf body j registers place left stop.Cut new_place new_left) (sym is)
      (λ t heap s v in_body runs right. cut_by_tick heap (cells_in t registers) place left s v runs (λ x. onward (active s v place (cells_in t registers)) (active s v place (cells_in t registers)).registers s.below x) (next_of s v place (cells_in t registers) i.Tick) none refl)
