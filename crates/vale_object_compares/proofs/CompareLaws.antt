-- What is compared, by names.
use Rattle.std.proofs.Common.{◌≡◌, ℕ, zero, suc, ℤ, ◌+◌, ◌<◌, List, [], ◌∷◌, length, Bool, Option, Some, None, refl, sym, ap, ◌∙◌}
use Rattle.std.specs.Prelude.{not, slice_set}
use Rattle.std.specs.Cmp.Lexicographic.{slice_cmp}
use Rattle.std.specs.Ordering.{int_cmp, nat_cmp}
use Rattle.vale_state_spec.specs.State.{State}
use Rattle.vale_state_spec.specs.World.{Value}
use Rattle.vale_state_spec.specs.World.{Int as number, Truth as truth, Text as text, Own as owner, Ref as reference, Iso as isolate}
use Rattle.vale_code.specs.Frames.{Active, Frame, Next}
use Rattle.vale_code.specs.Instructions.{certain, comparison_of, onward, with_choice, with_value}
use Rattle.vale_code.specs.Registers.{Registers, put, read}
use Rattle.vale_code.specs.declared.instr.Instr.TheVariants as i
use Rattle.vale_text.specs.Steps.{Comparison, compare, equal, holds, not_equal, same_truth}
use Rattle.vale_heap.specs.HeapState.{HeapState}
use Rattle.vale_heap.specs.declared.body.Cell.{Cell}
use Rattle.vale_heap.specs.declared.body.Cell.TheVariants.{Truth, Text}
use Rattle.vale_heap.specs.declared.body.Place.{Place}
use Rattle.vale_turn.specs.Comparing.{compared}
use Rattle.vale_turn.specs.View.{IsRight}
use Rattle.vale_turn.specs.declared.stop.Stop.TheVariants as stop
use Rattle.vale_turn.proofs.Rules.{left_value}
use Rattle.vale_object_cells.specs.Cells.{IsShaped, cell_of, cells_in, held, place_of}
use Rattle.vale_object_cells.specs.Names.{value_in, value_of, values_in}
use Rattle.vale_object_cells.specs.declared.register.Register.{Register}
use Rattle.vale_object_cells.specs.declared.register.Shape.{Shape}
use Rattle.vale_object_cells.specs.declared.register.Shape.TheVariants as shape
use Rattle.vale_object_cells.proofs.Naming.{read_values}
use Rattle.vale_object_numbers.proofs.NumberLaws.{wrote}
use Rattle.vale_object_turn.specs.Steps.{HasRule, Obeys, active}
use Rattle.vale_object_compares.specs.Compares.{compared_in}

-- ---- the rule

module _ (f : Active) (to : ℕ) (regs : Registers) (below : List Frame) (s : State) where
  abbrev compares_to : Option Comparison → Option Value → Option Value → Next
  compares_to k p q = with_choice k s (λ c. with_value p s (λ v. with_value q s (λ w. certain f (Some to) regs below s (compare c v w s))))

  abbrev gets_truth : Bool → Next
  gets_truth t = onward f (put regs to (Some (truth t))) below s

  compared_there : (k : Option Comparison) (p q : Option Value) → IsRight (compares_to k p q) → (t : Bool) × (compared k p q ≡ Some t)
  compared_there None p q r = absurd r
  compared_there (Some c) (Some (number x)) (Some (number y)) r = (holds c (int_cmp x y), refl)
  compared_there (Some c) (Some (text x)) (Some (text y)) r = (holds c (slice_cmp nat_cmp x y), refl)
  compared_there (Some equal) (Some (truth a)) (Some (truth b)) r = (same_truth a b, refl)
  compared_there (Some not_equal) (Some (truth a)) (Some (truth b)) r = (not (same_truth a b), refl)
  compared_there (Some c) None q r = absurd r
  compared_there (Some c) (Some v) None r = absurd r
  compared_there (Some c) (Some (truth a)) (Some (number y)) r = absurd r
  compared_there (Some c) (Some (truth a)) (Some (text y)) r = absurd r
  compared_there (Some c) (Some (truth a)) (Some (owner y)) r = absurd r
  compared_there (Some c) (Some (truth a)) (Some (reference y)) r = absurd r
  compared_there (Some c) (Some (truth a)) (Some (isolate y)) r = absurd r
  compared_there (Some _) (Some (truth a)) (Some (truth b)) r = absurd r
  compared_there (Some _) (Some _) (Some _) r = absurd r

  compared_so : (k : Option Comparison) (p q : Option Value) (t : Bool) → compared k p q ≡ Some t → compares_to k p q ≡ gets_truth t
  compared_so None p q t e = absurd (let x : ⊥ = cc in x)
  compared_so (Some c) (Some (number x)) (Some (number y)) t e = let h : holds c (int_cmp x y) ≡ t = cc in ap gets_truth h
  compared_so (Some c) (Some (text x)) (Some (text y)) t e = let h : holds c (slice_cmp nat_cmp x y) ≡ t = cc in ap gets_truth h
  compared_so (Some equal) (Some (truth a)) (Some (truth b)) t e = let h : same_truth a b ≡ t = cc in ap gets_truth h
  compared_so (Some not_equal) (Some (truth a)) (Some (truth b)) t e = let h : not (same_truth a b) ≡ t = cc in ap gets_truth h
  compared_so (Some equal) None q t e = absurd (let x : ⊥ = cc in x)
  compared_so (Some not_equal) None q t e = absurd (let x : ⊥ = cc in x)
  compared_so (Some _) _ _ t e = absurd (let x : ⊥ = cc in x)

module _ (cells : List (Option Cell)) (place to choice a b : ℕ) where
  pub is_compared : (heap : HeapState) (left : ℕ) → HasRule heap cells place left (i.Cmp to choice a b) → (names : List Place) × (t : Bool) × (compared_in names cells choice a b ≡ Some t)
  is_compared heap left r =
      let regs = values_in r.view.names cells in
      let x = compared_there (active r.scene r.view place cells) to regs r.scene.below r.view.state (comparison_of choice) (read regs a) (read regs b) r.right in
      (r.view.names, x.0, x.1)

  pub compares : (new : List (Option Cell)) (t : Bool) → ((names : List Place) → compared_in names cells choice a b ≡ Some t) → to < length cells → new ≡ slice_set cells to (Some (Truth t)) → (heap : HeapState) (left : ℕ) → Obeys (i.Cmp to choice a b) heap cells place left stop.Going heap new (place + 1) left
  compares new t so lt written heap left s v runs right =
      let regs = values_in v.names cells in
      let f = active s v place cells in
      wrote heap cells place left s v to (Truth t) new (compares_to f to regs s.below v.state (comparison_of choice) (read regs a) (read regs b)) (λ p h. let x : ⊥ = cc in x) lt written runs
      (compared_so f to regs s.below v.state (comparison_of choice) (read regs a) (read regs b) t (so v.names))

-- ---- operands

pub reads : (names : List Place) (cells : List (Option Cell)) (r : ℕ) (c : Cell) → held cells r ≡ Some c → read (values_in names cells) r ≡ Some (value_of names c)
reads names cells r c e = read_values names cells r ∙ ap (value_in names) e

truth_in : (names : List Place) (o : Option Cell) (b : Bool) → value_in names o ≡ Some (truth b) → o ≡ Some (Truth b)
truth_in names (Some (Truth c)) b e = let same : c ≡ b = cc in ap (λ x. Some (Truth x)) same
truth_in names None b e = absurd (let x : ⊥ = cc in x)
truth_in names (Some _) b e = absurd (let x : ⊥ = cc in x)

text_in : (names : List Place) (o : Option Cell) (y : List ℕ) → value_in names o ≡ Some (text y) → o ≡ Some (Text y)
text_in names (Some (Text z)) y e = let same : z ≡ y = cc in ap (λ x. Some (Text x)) same
text_in names None y e = absurd (let x : ⊥ = cc in x)
text_in names (Some _) y e = absurd (let x : ⊥ = cc in x)

pub holds_truth : (names : List Place) (cells : List (Option Cell)) (r : ℕ) (b : Bool) → read (values_in names cells) r ≡ Some (truth b) → held cells r ≡ Some (Truth b)
holds_truth names cells r b e = truth_in names (held cells r) b (sym (read_values names cells r) ∙ e)

text_of : (s : Shape) (b : Bool) (n : ℤ) (p : Place) (x y : List ℕ) → cell_of s b n p x ≡ Some (Text y) → Some (Text y) ≡ Some (Text x)
text_of shape.Text b n p x y e = sym e
text_of shape.Empty b n p x y e = absurd (let w : ⊥ = cc in w)
text_of shape.Int b n p x y e = absurd (let w : ⊥ = cc in w)
text_of shape.Truth b n p x y e = absurd (let w : ⊥ = cc in w)
text_of shape.Own b n p x y e = absurd (let w : ⊥ = cc in w)
text_of shape.Ref b n p x y e = absurd (let w : ⊥ = cc in w)
text_of shape.Iso b n p x y e = absurd (let w : ⊥ = cc in w)

own_text : (t : ℕ → List ℕ) (rs : List Register) (r : ℕ) (y : List ℕ) → held (cells_in t rs) r ≡ Some (Text y) → held (cells_in t rs) r ≡ Some (Text (t r))
own_text t [] r y e = absurd (let x : ⊥ = cc in x)
own_text t (q ∷ qs) zero y e = e ∙ text_of q.shape q.truth q.number (place_of q) (t 0) y e
own_text t (q ∷ qs) (suc r) y e = own_text (λ i. t (suc i)) qs r y e

pub holds_text : (names : List Place) (t : ℕ → List ℕ) (rs : List Register) (r : ℕ) (y : List ℕ) → read (values_in names (cells_in t rs)) r ≡ Some (text y) → held (cells_in t rs) r ≡ Some (Text (t r))
holds_text names t rs r y e = own_text t rs r y (text_in names (held (cells_in t rs) r) y (sym (read_values names (cells_in t rs) r) ∙ e))

cell_there : (names : List Place) (o : Option Cell) (w : Value) → value_in names o ≡ Some w → (c : Cell) × (o ≡ Some c)
cell_there names None w e = absurd (let x : ⊥ = cc in x)
cell_there names (Some c) w e = (c, refl)

-- the left operand is there
pub left_cell : (names : List Place) (cells : List (Option Cell)) (choice a b : ℕ) (t : Bool) → compared_in names cells choice a b ≡ Some t → (c : Cell) × (held cells a ≡ Some c)
left_cell names cells choice a b t e =
    let v = left_value (comparison_of choice) (read (values_in names cells) a) (read (values_in names cells) b) t e in
    cell_there names (held cells a) v.0 (sym (read_values names cells a) ∙ v.1)

-- what leads to an object is compared with nothing
never_compared : (names : List Place) (k : Option Comparison) (s : Shape) (b : Bool) (n : ℤ) (p : Place) (x : List ℕ) (w : Option Value) (t : Bool) → compared k (value_in names (cell_of s b n p x)) w ≡ Some t → (s ≡ shape.Int → ⊥) → (s ≡ shape.Truth → ⊥) → (s ≡ shape.Text → ⊥) → ⊥
never_compared names k shape.Int b n p x w t e i j l = i refl
never_compared names k shape.Truth b n p x w t e i j l = j refl
never_compared names k shape.Text b n p x w t e i j l = l refl
never_compared names k shape.Empty b n p x w t e i j l = let v = left_value k None w t e in let y : ⊥ = cc in y
never_compared names None _ b n p x w t e i j l = let y : ⊥ = cc in y
never_compared names (Some equal) _ b n p x w t e i j l = let y : ⊥ = cc in y
never_compared names (Some not_equal) _ b n p x w t e i j l = let y : ⊥ = cc in y
never_compared names (Some _) _ b n p x w t e i j l = let y : ⊥ = cc in y

pub never : (names : List Place) (t : ℕ → List ℕ) (rs : List Register) (choice a b : ℕ) (x : Bool) (s : Shape) → IsShaped rs a s → compared_in names (cells_in t rs) choice a b ≡ Some x → (s ≡ shape.Int → ⊥) → (s ≡ shape.Truth → ⊥) → (s ≡ shape.Text → ⊥) → ⊥
never names t rs choice a b x s h e =
    let cells = cells_in t rs in
    never_compared names (comparison_of choice) s h.truth h.number h.place (t a) (read (values_in names cells) b) x
    (ap (λ u. compared (comparison_of choice) u (read (values_in names cells) b)) (sym (read_values names cells a ∙ ap (value_in names) (h.is t))) ∙ e)

right_value : (k : Option Comparison) (v w : Option Value) (t : Bool) → compared k v w ≡ Some t → (y : Value) × (w ≡ Some y)
right_value None v w t e = absurd (let x : ⊥ = cc in x)
right_value (Some c) v (Some y) t e = (y, refl)
right_value (Some c) (Some (number x)) None t e = absurd (let x : ⊥ = cc in x)
right_value (Some equal) _ None t e = absurd (let x : ⊥ = cc in x)
right_value (Some not_equal) _ None t e = absurd (let x : ⊥ = cc in x)
right_value (Some _) _ None t e = absurd (let x : ⊥ = cc in x)

-- the right operand is there
pub right_cell : (names : List Place) (cells : List (Option Cell)) (choice a b : ℕ) (t : Bool) → compared_in names cells choice a b ≡ Some t → (c : Cell) × (held cells b ≡ Some c)
right_cell names cells choice a b t e =
    let v = right_value (comparison_of choice) (read (values_in names cells) a) (read (values_in names cells) b) t e in
    cell_there names (held cells b) v.0 (sym (read_values names cells b) ∙ v.1)

pub text_shaped : (registers : List Register) (a : ℕ) (s : Shape) → IsShaped registers a s → s ≡ shape.Text → (t : ℕ → List ℕ) → held (cells_in t registers) a ≡ Some (Text (t a))
text_shaped registers a s h e t = h.is t ∙ ap (λ x. cell_of x h.truth h.number h.place (t a)) e
