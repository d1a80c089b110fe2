-- What a step that has a rule tells of the registers that it reads.
use Rattle.std.proofs.Common.{◌≡◌, ℕ, zero, suc, ℤ, pos, List, [], ◌∷◌, Option, Some, None, Bool, true, false, refl, ap, ◌∙◌, subst}
use Rattle.std.specs.Cmp.Lexicographic.{slice_cmp}
use Rattle.std.specs.Ordering.{int_cmp, nat_cmp}
use Rattle.std.specs.Prelude.{not}
use Rattle.vale_state_spec.specs.State.{State, Answer}
use Rattle.vale_state_spec.specs.World.{Value, Int, Truth, Text}
use Rattle.vale_base.specs.declared.spot.Spot.{Spot}
use Rattle.vale_code.specs.Frames.{Active, Frame, Next}
use Rattle.vale_code.specs.Instructions.{answered, certain, comparison_of, copied, gets, onward, with_choice, with_value}
use Rattle.vale_code.specs.Parts.{Parts}
use Rattle.vale_code.specs.Registers.{Registers, put, read}
use Rattle.vale_code.specs.declared.instr.Instr.{Instr}
use Rattle.vale_code.specs.declared.instr.Instr.TheVariants as i
use Rattle.vale_text.specs.Operations as o
use Rattle.vale_text.specs.Steps.{Comparison, equal, not_equal, less, less_equal, greater, greater_equal, compare, gives_int, holds, on_ints, same_truth}
use Rattle.vale_registers.specs.Cells.{value_of, values_in, HoldsInt, HoldsValue}
use Rattle.vale_turn.specs.Comparing.{compared}
use Rattle.vale_turn.specs.Served.{is_aside}
use Rattle.vale_turn.specs.View.{HasRule, IsAside, IsRight, Leaving, Scene, active, next_of, state_at}
use Rattle.vale_turn.specs.declared.stop.Stop.{Stop}
use Rattle.vale_turn.specs.declared.stop.Stop.TheVariants as stop
use Rattle.vale_registers.specs.declared.cell.Cell.{Cell}
use Rattle.vale_registers.specs.declared.cell.Shape.{Shape}
use Rattle.vale_registers.specs.declared.cell.Shape.TheVariants as shape

-- ---- two numbers

module _ (f : Active) (to : Option ℕ) (regs : Registers) (at : Spot) (below : List Frame) (s : State) where
  pub ints_right : (go : ℤ → ℤ → Answer) (v w : Option Value) → IsRight (with_value v s (λ x. with_value w s (λ y. answered f to regs at below s (on_ints go x y))))
      → ((x : ℤ) × (v ≡ Some (Int x))) × ((y : ℤ) × (w ≡ Some (Int y)))
  ints_right go None w r = absurd r
  ints_right go (Some (Int a)) None r = absurd r
  ints_right go (Some (Int a)) (Some (Int b)) r = ((a, refl), (b, refl))
  ints_right go (Some (Int a)) (Some _) r = absurd r
  ints_right go (Some _) None r = absurd r
  ints_right go (Some _) (Some w) r = absurd r

pub add_ints : (body : List Instr) (place : ℕ) (cells : List Cell) (left : ℕ) (instr : Instr) (to a b : ℕ) (at : Spot) → instr ≡ i.Add to a b at → HasRule body place cells left instr → HoldsInt cells a × HoldsInt cells b
add_ints body place cells left instr to a b at e h =
    let k : HasRule body place cells left (i.Add to a b at) = subst (λ x. HasRule body place cells left x) e h in
    let t = state_at k.scene left in
    let regs = values_in k.scene.text cells in
    let r = ints_right (active k.function k.scene place cells) (Some to) regs at k.scene.below t (λ x y. gives_int t (o.add x y)) (read regs a) (read regs b) k.right in
    ((k.scene.text, r.0.0, r.0.1), (k.scene.text, r.1.0, r.1.1))

pub sub_ints : (body : List Instr) (place : ℕ) (cells : List Cell) (left : ℕ) (instr : Instr) (to a b : ℕ) (at : Spot) → instr ≡ i.Sub to a b at → HasRule body place cells left instr → HoldsInt cells a × HoldsInt cells b
sub_ints body place cells left instr to a b at e h =
    let k : HasRule body place cells left (i.Sub to a b at) = subst (λ x. HasRule body place cells left x) e h in
    let t = state_at k.scene left in
    let regs = values_in k.scene.text cells in
    let r = ints_right (active k.function k.scene place cells) (Some to) regs at k.scene.below t (λ x y. gives_int t (o.sub x y)) (read regs a) (read regs b) k.right in
    ((k.scene.text, r.0.0, r.0.1), (k.scene.text, r.1.0, r.1.1))

pub mul_ints : (body : List Instr) (place : ℕ) (cells : List Cell) (left : ℕ) (instr : Instr) (to a b : ℕ) (at : Spot) → instr ≡ i.Mul to a b at → HasRule body place cells left instr → HoldsInt cells a × HoldsInt cells b
mul_ints body place cells left instr to a b at e h =
    let k : HasRule body place cells left (i.Mul to a b at) = subst (λ x. HasRule body place cells left x) e h in
    let t = state_at k.scene left in
    let regs = values_in k.scene.text cells in
    let r = ints_right (active k.function k.scene place cells) (Some to) regs at k.scene.below t (λ x y. gives_int t (o.mul x y)) (read regs a) (read regs b) k.right in
    ((k.scene.text, r.0.0, r.0.1), (k.scene.text, r.1.0, r.1.1))

pub div_ints : (body : List Instr) (place : ℕ) (cells : List Cell) (left : ℕ) (instr : Instr) (to a b : ℕ) (at : Spot) → instr ≡ i.Div to a b at → HasRule body place cells left instr → HoldsInt cells a × HoldsInt cells b
div_ints body place cells left instr to a b at e h =
    let k : HasRule body place cells left (i.Div to a b at) = subst (λ x. HasRule body place cells left x) e h in
    let t = state_at k.scene left in
    let regs = values_in k.scene.text cells in
    let r = ints_right (active k.function k.scene place cells) (Some to) regs at k.scene.below t (λ x y. gives_int t (o.div x y)) (read regs a) (read regs b) k.right in
    ((k.scene.text, r.0.0, r.0.1), (k.scene.text, r.1.0, r.1.1))

pub rem_ints : (body : List Instr) (place : ℕ) (cells : List Cell) (left : ℕ) (instr : Instr) (to a b : ℕ) (at : Spot) → instr ≡ i.Rem to a b at → HasRule body place cells left instr → HoldsInt cells a × HoldsInt cells b
rem_ints body place cells left instr to a b at e h =
    let k : HasRule body place cells left (i.Rem to a b at) = subst (λ x. HasRule body place cells left x) e h in
    let t = state_at k.scene left in
    let regs = values_in k.scene.text cells in
    let r = ints_right (active k.function k.scene place cells) (Some to) regs at k.scene.below t (λ x y. gives_int t (o.rem x y)) (read regs a) (read regs b) k.right in
    ((k.scene.text, r.0.0, r.0.1), (k.scene.text, r.1.0, r.1.1))

-- ---- what is copied

module _ (f : Active) (to : ℕ) (regs : Registers) (below : List Frame) (s : State) where
  pub value_right : (v : Option Value) → IsRight (with_value v s (λ x. gets f to (copied x) regs below s)) → (x : Value) × (v ≡ Some x)
  value_right None r = absurd r
  value_right (Some v) r = (v, refl)

pub copied_value : (body : List Instr) (place : ℕ) (cells : List Cell) (left : ℕ) (instr : Instr) (to a : ℕ) → instr ≡ i.Copy to a → HasRule body place cells left instr → HoldsValue cells a
copied_value body place cells left instr to a e h =
    let k : HasRule body place cells left (i.Copy to a) = subst (λ x. HasRule body place cells left x) e h in
    let regs = values_in k.scene.text cells in
    let r = value_right (active k.function k.scene place cells) to regs k.scene.below (state_at k.scene left) (read regs a) k.right in
    (k.scene.text, r.0, r.1)

-- ---- what is compared

-- a register holds what a cell does
pub record IsRead (v : Option Value) : Type 0 where
  pub shape : Shape
  pub truth : Bool
  pub number : ℤ
  pub text : List ℕ
  pub is : v ≡ value_of shape truth number text

pub read_cell : (t : ℕ → List ℕ) (cells : List Cell) (r : ℕ) → IsRead (read (values_in t cells) r)
read_cell t [] r = record { shape = shape.Empty; truth = false; number = pos 0; text = []; is = refl }
read_cell t (c ∷ cs) zero = record { shape = c.shape; truth = c.truth; number = c.number; text = t 0; is = refl }
read_cell t (c ∷ cs) (suc r) = read_cell (λ i. t (suc i)) cs r

module _ (f : Active) (to : ℕ) (regs : Registers) (below : List Frame) (s : State) where
  abbrev next : Option Comparison → Option Value → Option Value → Next
  next k v w = with_choice k s (λ c. with_value v s (λ x. with_value w s (λ y. certain f (Some to) regs below s (compare c x y s))))

  cells_right : (k : Option Comparison) (p : Shape) (a : Bool) (m : ℤ) (x : List ℕ) (q : Shape) (b : Bool) (n : ℤ) (y : List ℕ) → IsRight (next k (value_of p a m x) (value_of q b n y))
      → (t : Bool) × (compared k (value_of p a m x) (value_of q b n y) ≡ Some t)
  cells_right None p a m x q b n y r = absurd r
  cells_right (Some c) shape.Empty a m x q b n y r = absurd r
  cells_right (Some c) shape.Int a m x shape.Empty b n y r = absurd r
  cells_right (Some c) shape.Int a m x shape.Int b n y r = (holds c (int_cmp m n), refl)
  cells_right (Some c) shape.Int a m x shape.Truth b n y r = absurd r
  cells_right (Some c) shape.Int a m x shape.Text b n y r = absurd r
  cells_right (Some c) shape.Truth a m x shape.Empty b n y r = absurd r
  cells_right (Some c) shape.Truth a m x shape.Int b n y r = absurd r
  cells_right (Some equal) shape.Truth a m x shape.Truth b n y r = (same_truth a b, refl)
  cells_right (Some not_equal) shape.Truth a m x shape.Truth b n y r = (not (same_truth a b), refl)
  cells_right (Some less) shape.Truth a m x shape.Truth b n y r = absurd r
  cells_right (Some less_equal) shape.Truth a m x shape.Truth b n y r = absurd r
  cells_right (Some greater) shape.Truth a m x shape.Truth b n y r = absurd r
  cells_right (Some greater_equal) shape.Truth a m x shape.Truth b n y r = absurd r
  cells_right (Some c) shape.Truth a m x shape.Text b n y r = absurd r
  cells_right (Some c) shape.Text a m x shape.Empty b n y r = absurd r
  cells_right (Some c) shape.Text a m x shape.Int b n y r = absurd r
  cells_right (Some c) shape.Text a m x shape.Truth b n y r = absurd r
  cells_right (Some c) shape.Text a m x shape.Text b n y r = (holds c (slice_cmp nat_cmp x y), refl)

  pub both_right : (k : Option Comparison) (v w : Option Value) → IsRead v → IsRead w → IsRight (next k v w) → (t : Bool) × (compared k v w ≡ Some t)
  both_right k v w x y r =
      let h = cells_right k x.shape x.truth x.number x.text y.shape y.truth y.number y.text (subst (λ u. IsRight (next k (value_of x.shape x.truth x.number x.text) u)) y.is (subst (λ u. IsRight (next k u w)) x.is r)) in
      (h.0, ap (λ u. compared k u w) x.is ∙ ap (λ u. compared k (value_of x.shape x.truth x.number x.text) u) y.is ∙ h.1)

pub cmp_right : (body : List Instr) (place : ℕ) (cells : List Cell) (left : ℕ) (instr : Instr) (to choice a b : ℕ) → instr ≡ i.Cmp to choice a b → HasRule body place cells left instr
    → (t : ℕ → List ℕ) × (x : Bool) × (compared (comparison_of choice) (read (values_in t cells) a) (read (values_in t cells) b) ≡ Some x)
cmp_right body place cells left instr to choice a b e h =
    let k : HasRule body place cells left (i.Cmp to choice a b) = subst (λ x. HasRule body place cells left x) e h in
    let regs = values_in k.scene.text cells in
    let r = both_right (active k.function k.scene place cells) to regs k.scene.below (state_at k.scene left) (comparison_of choice) (read regs a) (read regs b)
    (read_cell k.scene.text cells a) (read_cell k.scene.text cells b) k.right in
    (k.scene.text, r.0, r.1)

pub left_value : (k : Option Comparison) (v w : Option Value) (t : Bool) → compared k v w ≡ Some t → (x : Value) × (v ≡ Some x)
left_value None v w t e = absurd (let x : ⊥ = cc in x)
left_value (Some c) (Some x) w t e = (x, refl)
left_value (Some equal) None w t e = absurd (let x : ⊥ = cc in x)
left_value (Some not_equal) None w t e = absurd (let x : ⊥ = cc in x)
left_value (Some _) None w t e = absurd (let x : ⊥ = cc in x)

pub right_int : (k : Option Comparison) (n : ℤ) (w : Option Value) (t : Bool) → compared k (Some (Int n)) w ≡ Some t → (z : ℤ) × (w ≡ Some (Int z))
right_int None n w t e = absurd (let x : ⊥ = cc in x)
right_int (Some c) n (Some (Int z)) t e = (z, refl)
right_int (Some c) n _ t e = absurd (let x : ⊥ = cc in x)

pub right_truth : (k : Option Comparison) (a : Bool) (w : Option Value) (t : Bool) → compared k (Some (Truth a)) w ≡ Some t → (b : Bool) × (w ≡ Some (Truth b))
right_truth None a w t e = absurd (let x : ⊥ = cc in x)
right_truth (Some c) a (Some (Truth b)) t e = (b, refl)
right_truth (Some equal) a _ t e = absurd (let x : ⊥ = cc in x)
right_truth (Some not_equal) a _ t e = absurd (let x : ⊥ = cc in x)
right_truth (Some _) a _ t e = absurd (let x : ⊥ = cc in x)

-- ---- what is copied or compared within the cells

module _ (code : Parts) (function : ℕ) (s : Scene) (place : ℕ) (cells : List Cell) (left : ℕ) where
  pub copied_int : (to a : ℕ) (n : ℤ) → read (values_in s.text cells) a ≡ Some (Int n)
      → next_of code function s place cells left (i.Copy to a) ≡ onward (active function s place cells) (put (values_in s.text cells) to (Some (Int n))) s.below (state_at s left)
  copied_int to a n e = ap (λ o. with_value o (state_at s left) (λ v. gets (active function s place cells) to (copied v) (values_in s.text cells) s.below (state_at s left))) e

  pub copied_truth : (to a : ℕ) (b : Bool) → read (values_in s.text cells) a ≡ Some (Truth b)
      → next_of code function s place cells left (i.Copy to a) ≡ onward (active function s place cells) (put (values_in s.text cells) to (Some (Truth b))) s.below (state_at s left)
  copied_truth to a b e = ap (λ o. with_value o (state_at s left) (λ v. gets (active function s place cells) to (copied v) (values_in s.text cells) s.below (state_at s left))) e

  abbrev compares : ℕ → Option Comparison → Option Value → Option Value → Next
  compares to k v w = with_choice k (state_at s left) (λ c. with_value v (state_at s left) (λ x. with_value w (state_at s left) (λ y. certain (active function s place cells) (Some to) (values_in s.text cells) s.below (state_at s left) (compare c x y (state_at s left)))))

  abbrev gets_truth : ℕ → Bool → Next
  gets_truth to t = onward (active function s place cells) (put (values_in s.text cells) to (Some (Truth t))) s.below (state_at s left)

  compared_so : (to : ℕ) (k : Option Comparison) (v w : Option Value) (t : Bool) → compared k v w ≡ Some t → compares to k v w ≡ gets_truth to t
  compared_so to None v w t e = absurd (let x : ⊥ = cc in x)
  compared_so to (Some c) (Some (Int x)) (Some (Int y)) t e = let h : holds c (int_cmp x y) ≡ t = cc in ap (gets_truth to) h
  compared_so to (Some c) (Some (Text x)) (Some (Text y)) t e = let h : holds c (slice_cmp nat_cmp x y) ≡ t = cc in ap (gets_truth to) h
  compared_so to (Some equal) (Some (Truth a)) (Some (Truth b)) t e = let h : same_truth a b ≡ t = cc in ap (gets_truth to) h
  compared_so to (Some not_equal) (Some (Truth a)) (Some (Truth b)) t e = let h : not (same_truth a b) ≡ t = cc in ap (gets_truth to) h
  compared_so to (Some _) _ _ t e = absurd (let x : ⊥ = cc in x)

  pub compared_is : (to choice a b : ℕ) (t : Bool) → compared (comparison_of choice) (read (values_in s.text cells) a) (read (values_in s.text cells) b) ≡ Some t
      → next_of code function s place cells left (i.Cmp to choice a b) ≡ gets_truth to t
  compared_is to choice a b t e = compared_so to (comparison_of choice) (read (values_in s.text cells) a) (read (values_in s.text cells) b) t e

pub right_text : (k : Option Comparison) (x : List ℕ) (w : Option Value) (t : Bool) → compared k (Some (Text x)) w ≡ Some t → (y : List ℕ) × (w ≡ Some (Text y))
right_text None x w t e = absurd (let z : ⊥ = cc in z)
right_text (Some c) x (Some (Text y)) t e = (y, refl)
right_text (Some c) x _ t e = absurd (let z : ⊥ = cc in z)

-- ---- what is done aside

pub leaving_aside : (t : Stop) (instr : Instr) → IsAside t → is_aside instr ≡ true → Leaving t instr
leaving_aside stop.Going instr a e = tt
leaving_aside stop.Aside instr a e = e
leaving_aside _ instr a e = absurd a
