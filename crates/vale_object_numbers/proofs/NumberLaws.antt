-- Numbers and truths that go to registers, and operands that registers hold.
use Rattle.std.proofs.Common.{◌≡◌, ℕ, zero, suc, ◌+◌, ◌<◌, ℤ, List, length, Bool, Option, Some, None, refl, sym, ap, subst, ◌∙◌}
use Rattle.std.specs.Prelude.{◌==◌, Err, Ok, Result, not, slice_set}
use Rattle.vale_base.specs.declared.spot.Spot.{Spot}
use Rattle.vale_base.specs.declared.trap.TrapKind.{TrapKind}
use Rattle.vale_state_spec.specs.State.{State}
use Rattle.vale_state_spec.specs.World.{Value}
use Rattle.vale_state_spec.specs.World.{Int as number, Truth as truth}
use Rattle.vale_code.specs.Frames.{Active, Frame, Next}
use Rattle.vale_code.specs.Instructions.{answered, certain, onward, with_value}
use Rattle.vale_code.specs.Registers.{Registers, put, read}
use Rattle.vale_code.specs.declared.instr.Instr.{Instr}
use Rattle.vale_code.specs.declared.instr.Instr.TheVariants as i
use Rattle.vale_text.specs.Steps.{gives_int, on_ints, opposite}
use Rattle.vale_heap.specs.HeapState.{HeapState}
use Rattle.vale_heap.specs.declared.body.Cell.{Cell}
use Rattle.vale_heap.specs.declared.body.Cell.TheVariants.{Int, Truth, Text, Own, Ref, Iso}
use Rattle.vale_heap.specs.declared.body.Place.{Place}
use Rattle.vale_turn.specs.View.{IsRight}
use Rattle.vale_turn.specs.declared.stop.Stop.{Stop}
use Rattle.vale_turn.specs.declared.stop.Stop.TheVariants as stop
use Rattle.vale_object_cells.specs.Cells.{HoldsInt, HoldsTruth, cells_in, held, place_in}
use Rattle.vale_object_cells.specs.Names.{AllKnown, value_in, value_of, values_in}
use Rattle.vale_object_cells.specs.declared.register.Register.{Register}
use Rattle.vale_object_cells.proofs.Holding.{as_many}
use Rattle.vale_object_cells.proofs.Naming.{known_put, put_values, read_values}
use Rattle.vale_object_steps.specs.Views.{View}
use Rattle.vale_object_steps.proofs.FieldLaws.{same_names}
use Rattle.vale_object_turn.specs.Steps.{GoesOn, Runs, Scene, Stepped, active, next_of}
use Rattle.vale_object_numbers.specs.Numbers.{HasRuleIn, Lands, ObeysAll}

-- ---- what goes to a register

module _ (heap : HeapState) (cells : List (Option Cell)) (place left : ℕ) (s : Scene) (v : View) where
  pub wrote : (to : ℕ) (c : Cell) (new : List (Option Cell)) (next : Next) → ((p : Place) → place_in (Some c) ≡ Some p → ⊥) → to < length cells → new ≡ slice_set cells to (Some c) → Runs v heap cells left
      → next ≡ onward (active s v place cells) (put (values_in v.names cells) to (Some (value_of v.names c))) s.below v.state → GoesOn s v next heap new (place + 1) left
  wrote to c new next plain lt is runs next_is = record {
    view = v;
    grows = same_names v v.state;
    runs = record {
      agrees = record {
        stands = runs.agrees.stands;
        regions = runs.agrees.regions;
        known = subst (AllKnown v.names) (sym is) (known_put v.names cells to (Some c) runs.agrees.known (λ p e. absurd (plain p e)));
      };
      ticks_left = runs.ticks_left;
    };
    ticks = refl;
    pieces = refl;
    frozen = refl;
    is = next_is ∙ ap (λ regs. onward (active s v place cells) regs s.below v.state) (sym (ap (values_in v.names) is ∙ put_values v.names cells to (Some c) lt));
  }

module _ (to : ℕ) (at : Spot) (old : List Register) (place : ℕ) (new : List Register) (room : to < length old) where
  pub lands_number : (outcome : Result ℤ TrapKind) (z y : ℤ) → outcome ≡ Ok z → y ≡ z → ((t : ℕ → List ℕ) → cells_in t new ≡ slice_set (cells_in t old) to (Some (Int y))) → Lands to at outcome old place stop.Going new (place + 1)
  lands_number outcome z y e same is = subst (λ o. Lands to at o old place stop.Going new (place + 1)) (sym e) landed
    where
      landed : Lands to at (Ok z) old place stop.Going new (place + 1)
      landed t heap left s v runs =
          let cells = cells_in t old in
          let regs = values_in v.names cells in
          let written : cells_in t new ≡ slice_set cells to (Some (Int z)) = is t ∙ ap (λ n. slice_set cells to (Some (Int n))) same in
          wrote heap cells place left s v to (Int z) (cells_in t new) (answered (active s v place cells) (Some to) regs at s.below v.state (gives_int v.state (Ok z))) (λ p h. let x : ⊥ = cc in x) (subst (λ n. to < n) (sym (as_many t old)) room) written runs refl

pub lands_trap : (to : ℕ) (at : Spot) (old : List Register) (place : ℕ) (outcome : Result ℤ TrapKind) (kind : TrapKind) → outcome ≡ Err kind → Lands to at outcome old place (stop.Trap kind at) old place
lands_trap to at old place outcome kind e = subst (λ o. Lands to at o old place (stop.Trap kind at) old place) (sym e) (λ t heap left s v runs. refl)

-- ---- operands

int_in : (names : List Place) (o : Option Cell) (z : ℤ) → value_in names o ≡ Some (number z) → o ≡ Some (Int z)
int_in names None z e = absurd (let x : ⊥ = cc in x)
int_in names (Some (Int y)) z e = let same : y ≡ z = cc in ap (λ n. Some (Int n)) same
int_in names (Some (Truth b)) z e = absurd (let x : ⊥ = cc in x)
int_in names (Some (Text t)) z e = absurd (let x : ⊥ = cc in x)
int_in names (Some (Own p)) z e = absurd (let x : ⊥ = cc in x)
int_in names (Some (Ref p)) z e = absurd (let x : ⊥ = cc in x)
int_in names (Some (Iso p)) z e = absurd (let x : ⊥ = cc in x)

pub reads_int : (names : List Place) (cells : List (Option Cell)) (a : ℕ) (z : ℤ) → held cells a ≡ Some (Int z) → read (values_in names cells) a ≡ Some (number z)
reads_int names cells a z e = read_values names cells a ∙ ap (value_in names) e

pub holds_int : (names : List Place) (cells : List (Option Cell)) (a : ℕ) (z : ℤ) → read (values_in names cells) a ≡ Some (number z) → held cells a ≡ Some (Int z)
holds_int names cells a z e = int_in names (held cells a) z (sym (read_values names cells a) ∙ e)

-- ---- two numbers

module _ (op : ℤ → ℤ → Result ℤ TrapKind) (f : Active) (to : Option ℕ) (regs : Registers) (at : Spot) (below : List Frame) (s : State) where
  abbrev pub operates : Option Value → Option Value → Next
  operates p q = with_value p s (λ v. with_value q s (λ w. answered f to regs at below s (on_ints (λ x y. gives_int s (op x y)) v w)))

  pub two_ints : (p q : Option Value) → IsRight (operates p q) → ((x : ℤ) × (p ≡ Some (number x))) × ((y : ℤ) × (q ≡ Some (number y)))
  two_ints None q r = absurd r
  two_ints (Some (number a)) None r = absurd r
  two_ints (Some (number a)) (Some (number b)) r = ((a, refl), (b, refl))
  two_ints (Some (number a)) (Some _) r = absurd r
  two_ints (Some _) None r = absurd r
  two_ints (Some _) (Some w) r = absurd r

  pub operates_on : (p q : Option Value) (x y : ℤ) → p ≡ Some (number x) → q ≡ Some (number y) → operates p q ≡ answered f to regs at below s (gives_int s (op x y))
  operates_on p q x y e h = ap (λ o. operates o q) e ∙ ap (operates (Some (number x))) h

-- an instruction on two numbers
abbrev pub IsOperation : Instr → (ℤ → ℤ → Result ℤ TrapKind) → ℕ → ℕ → ℕ → Spot → Type 0
IsOperation instr op to a b at =
    (s : Scene) (v : View) (place : ℕ) (cells : List (Option Cell)) → next_of s v place cells instr ≡ operates op (active s v place cells) (Some to) (values_in v.names cells) at s.below v.state (read (values_in v.names cells) a) (read (values_in v.names cells) b)

module _ (instr same : Instr) (op : ℤ → ℤ → Result ℤ TrapKind) (to a b : ℕ) (at : Spot) (is : instr ≡ same) (operation : IsOperation same op to a b at) (old : List Register) (place : ℕ) where
  pub operands : (left : ℕ) × HasRuleIn old place left instr → HoldsInt old a × HoldsInt old b
  operands h =
      let k : HasRuleIn old place h.0 same = subst (HasRuleIn old place h.0) is h.1 in
      let r = k.rule in
      let cells = cells_in k.text old in
      let regs = values_in r.view.names cells in
      let x = two_ints op (active r.scene r.view place cells) (Some to) regs at r.scene.below r.view.state (read regs a) (read regs b) (subst IsRight (operation r.scene r.view place cells) r.right) in
      ((k.text, x.0.0, holds_int r.view.names cells a x.0.0 x.0.1), (k.text, x.1.0, holds_int r.view.names cells b x.1.0 x.1.1))

  pub operated : (x y : ℤ) (outcome : Result ℤ TrapKind) (told : Stop) (new : List Register) (new_place : ℕ) → ((t : ℕ → List ℕ) → held (cells_in t old) a ≡ Some (Int x)) → ((t : ℕ → List ℕ) → held (cells_in t old) b ≡ Some (Int y)) → outcome ≡ op x y
      → Lands to at outcome old place told new new_place → (left : ℕ) → ObeysAll instr old place left told new new_place left
  operated x y outcome told new new_place first second e lands left = subst (λ j. ObeysAll j old place left told new new_place left) (sym is) obeyed
    where
      obeyed : ObeysAll same old place left told new new_place left
      obeyed t heap s v runs right =
          let cells = cells_in t old in
          let regs = values_in v.names cells in
          let f = active s v place cells in
          let next_is =
          operation s v place cells
          ∙ operates_on op f (Some to) regs at s.below v.state (read regs a) (read regs b) x y (reads_int v.names cells a x (first t)) (reads_int v.names cells b y (second t))
          ∙ ap (λ o. answered f (Some to) regs at s.below v.state (gives_int v.state o)) (sym e) in
          subst (λ next. Stepped s v place cells told next heap (cells_in t new) new_place left) (sym next_is) (lands t heap left s v runs)

-- ---- constants

module _ (old : List Register) (place : ℕ) (new : List Register) (to left : ℕ) (room : to < length old) where
  puts : (c : Cell) (instr : Instr) → ((p : Place) → place_in (Some c) ≡ Some p → ⊥) → ((t : ℕ → List ℕ) → cells_in t new ≡ slice_set (cells_in t old) to (Some c))
      → ((s : Scene) (v : View) (t : ℕ → List ℕ) → IsRight (next_of s v place (cells_in t old) instr) → next_of s v place (cells_in t old) instr ≡ onward (active s v place (cells_in t old)) (put (values_in v.names (cells_in t old)) to (Some (value_of v.names c))) s.below v.state)
      → ObeysAll instr old place left stop.Going new (place + 1) left
  puts c instr plain is leads t heap s v runs right =
      wrote heap (cells_in t old) place left s v to c (cells_in t new) (next_of s v place (cells_in t old) instr) plain (subst (λ n. to < n) (sym (as_many t old)) room) (is t) runs (leads s v t right)

  pub puts_int : (z y : ℤ) (instr : Instr) → instr ≡ i.Int to z → y ≡ z → ((t : ℕ → List ℕ) → cells_in t new ≡ slice_set (cells_in t old) to (Some (Int y))) → ObeysAll instr old place left stop.Going new (place + 1) left
  puts_int z y instr e same is =
      subst (λ j. ObeysAll j old place left stop.Going new (place + 1) left) (sym e)
      (puts (Int z) (i.Int to z) (λ p h. let x : ⊥ = cc in x) (λ t. is t ∙ ap (λ n. slice_set (cells_in t old) to (Some (Int n))) same) (λ s v t r. refl))

  chosen : (choice : ℕ) (b : Bool) → b ≡ (choice == 1) → (s : Scene) (v : View) (cells : List (Option Cell)) → IsRight (next_of s v place cells (i.Truth to choice))
      → next_of s v place cells (i.Truth to choice) ≡ onward (active s v place cells) (put (values_in v.names cells) to (Some (truth b))) s.below v.state
  chosen zero b e s v cells r = ap (λ x. onward (active s v place cells) (put (values_in v.names cells) to (Some (truth x))) s.below v.state) (sym e)
  chosen (suc zero) b e s v cells r = ap (λ x. onward (active s v place cells) (put (values_in v.names cells) to (Some (truth x))) s.below v.state) (sym e)
  chosen (suc (suc n)) b e s v cells r = absurd r

  pub puts_choice : (choice : ℕ) (b : Bool) (instr : Instr) → b ≡ (choice == 1) → instr ≡ i.Truth to choice → ((t : ℕ → List ℕ) → cells_in t new ≡ slice_set (cells_in t old) to (Some (Truth b))) → ObeysAll instr old place left stop.Going new (place + 1) left
  puts_choice choice b instr h e is = subst (λ j. ObeysAll j old place left stop.Going new (place + 1) left) (sym e) (puts (Truth b) (i.Truth to choice) (λ p x. let y : ⊥ = cc in y) is (λ s v t r. chosen choice b h s v (cells_in t old) r))

  pub puts_opposite : (a : ℕ) (b : Bool) (instr : Instr) → instr ≡ i.Not to a → ((t : ℕ → List ℕ) → held (cells_in t old) a ≡ Some (Truth b)) → ((t : ℕ → List ℕ) → cells_in t new ≡ slice_set (cells_in t old) to (Some (Truth (not b)))) → ObeysAll instr old place left stop.Going new (place + 1) left
  puts_opposite a b instr e holds is =
      subst (λ j. ObeysAll j old place left stop.Going new (place + 1) left) (sym e)
      (puts (Truth (not b)) (i.Not to a) (λ p x. let y : ⊥ = cc in y) is
      (λ s v t r. ap (λ o. with_value o v.state (λ w. certain (active s v place (cells_in t old)) (Some to) (values_in v.names (cells_in t old)) s.below v.state (opposite w v.state)))
      (read_values v.names (cells_in t old) a ∙ ap (value_in v.names) (holds t))))

-- ---- a truth

truth_in : (names : List Place) (o : Option Cell) (f : Active) (to : Option ℕ) (regs : Registers) (below : List Frame) (s : State) → IsRight (with_value (value_in names o) s (λ w. certain f to regs below s (opposite w s))) → (b : Bool) × (o ≡ Some (Truth b))
truth_in names None f to regs below s r = absurd r
truth_in names (Some (Truth b)) f to regs below s r = (b, refl)
truth_in names (Some (Int z)) f to regs below s r = absurd r
truth_in names (Some (Text t)) f to regs below s r = absurd r
truth_in names (Some (Own p)) f to regs below s r = absurd r
truth_in names (Some (Ref p)) f to regs below s r = absurd r
truth_in names (Some (Iso p)) f to regs below s r = absurd r

pub holds_truth : (old : List Register) (place : ℕ) (instr : Instr) (to a : ℕ) → instr ≡ i.Not to a → (left : ℕ) × HasRuleIn old place left instr → HoldsTruth old a
holds_truth old place instr to a e h =
    let k : HasRuleIn old place h.0 (i.Not to a) = subst (HasRuleIn old place h.0) e h.1 in
    let r = k.rule in
    let cells = cells_in k.text old in
    let regs = values_in r.view.names cells in
    let f = active r.scene r.view place cells in
    let s = r.view.state in
    let x = truth_in r.view.names (held cells a) f (Some to) regs r.scene.below s (subst (λ o. IsRight (with_value o s (λ w. certain f (Some to) regs r.scene.below s (opposite w s)))) (read_values r.view.names cells a) r.right) in
    (k.text, x.0, x.1)
