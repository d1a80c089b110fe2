-- Cells that go to registers, and cells that are kept.
use Rattle.std.proofs.Common.{◌≡◌, ◌≢◌, ℕ, ◌+◌, List, Option, Some, None, ℤ, Bool, sym, ap, subst, ◌∙◌, arith}
use Rattle.std.specs.Prelude.{slice_set}
use Rattle.vale_registers.specs.Passing.{from_base}
use Rattle.vale_registers.specs.Texts.{IsWritten, text_at}
use Rattle.vale_heap.specs.declared.body.Cell.{Cell}
use Rattle.vale_heap.specs.declared.body.Cell.TheVariants.{Int, Truth, Text, Own, Ref, Iso}
use Rattle.vale_heap.specs.declared.body.Place.{Place}
use Rattle.vale_object_cells.specs.Cells.{IsShaped, cells_from, cells_in, held, kept_cells}
use Rattle.vale_object_cells.specs.declared.register.Register.{Register}
use Rattle.vale_object_cells.specs.declared.register.Shape.{Shape}
use Rattle.vale_object_cells.specs.declared.register.Shape.TheVariants as shape

-- a register that got the text of a row
pub text_to : (base to : ℕ) (text : List ℕ) (old new : List (List ℕ)) (rs after : List Register) → IsWritten (base + to) text old new
    → ((t u : ℕ → List ℕ) → ((i : ℕ) → i ≢ to → u i ≡ t i) → cells_in u after ≡ slice_set (cells_in t rs) to (Some (Text (u to)))) → cells_from base new after ≡ slice_set (cells_from base old rs) to (Some (Text text))
text_to base to text old new rs after w set =
    set (from_base base (text_at old)) (from_base base (text_at new)) (λ i n. w.others (base + i) (λ e. n (omega (arith, e))))
    ∙ ap (λ x. slice_set (cells_from base old rs) to (Some (Text x))) w.is

pub text_shaped : (rs : List Register) (r : ℕ) (s : Shape) → IsShaped rs r s → s ≡ shape.Text → (t : ℕ → List ℕ) → held (cells_in t rs) r ≡ Some (Text (t r))
text_shaped rs r s q e t = let k : IsShaped rs r shape.Text = subst (λ x. IsShaped rs r x) e q in k.is t

module _ (cells : List (Option Cell)) (r : ℕ) where
  pub int_kept : (z : ℤ) → held cells r ≡ Some (Int z) → cells ≡ kept_cells (held cells r) r cells
  int_kept z e = sym (ap (λ o. kept_cells o r cells) e)

  pub truth_kept : (b : Bool) → held cells r ≡ Some (Truth b) → cells ≡ kept_cells (held cells r) r cells
  truth_kept b e = sym (ap (λ o. kept_cells o r cells) e)

  pub text_kept : (t : List ℕ) → held cells r ≡ Some (Text t) → cells ≡ kept_cells (held cells r) r cells
  text_kept t e = sym (ap (λ o. kept_cells o r cells) e)

  pub own_kept : (p : Place) (after : List (Option Cell)) → held cells r ≡ Some (Own p) → after ≡ slice_set cells r None → after ≡ kept_cells (held cells r) r cells
  own_kept p after e is = is ∙ sym (ap (λ o. kept_cells o r cells) e)

  pub reference_kept : (p : Place) → held cells r ≡ Some (Ref p) → cells ≡ kept_cells (held cells r) r cells
  reference_kept p e = sym (ap (λ o. kept_cells o r cells) e)

  pub iso_kept : (p : Place) (after : List (Option Cell)) → held cells r ≡ Some (Iso p) → after ≡ slice_set cells r None → after ≡ kept_cells (held cells r) r cells
  iso_kept p after e is = is ∙ sym (ap (λ o. kept_cells o r cells) e)
