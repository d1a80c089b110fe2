-- The registers of a destructor that is entered.
use Rattle.std.proofs.Common.{◌≡◌, ℕ, zero, suc, ◌-◌, ◌<◌, ◌≤◌, ◌++◌, List, ◌∷◌, length, take, drop, replicate, Option, Some, None, sym, ap, ◌∙◌, arith, length-append}
use Rattle.std.specs.Prelude.{slice_set}
use Rattle.std.proofs.lemmas.List.{drop_at, take_at, take-take}
use Rattle.vale_heap.specs.declared.body.Cell.{Cell}
use Rattle.vale_heap.specs.declared.body.Cell.TheVariants.{Own}
use Rattle.vale_heap.specs.declared.body.Place.{Place}
use Rattle.vale_object_cells.specs.Cells.{cells_in}
use Rattle.vale_object_cells.specs.declared.register.Register.{Register}

abbrev no_cell : Option Cell
no_cell = None

set_first : (n : ℕ) (c : Option Cell) → 0 < n → slice_set (replicate n no_cell) 0 c ≡ c ∷ replicate (n - 1) no_cell
set_first zero c lt = absurd (omega (arith, lt))
set_first (suc n) c lt = let one : n ≡ suc n - 1 = omega arith in ap (λ k. c ∷ replicate k no_cell) one

module _ (base end : ℕ) (row under own rest : List Register) (lt : base < end) (few : end ≤ length row) (is_under : under ≡ take base (take end row)) (size : length under ≡ base) (many : length own ≡ end - base) where
  abbrev whole : List Register
  whole = (under ++ own) ++ rest

  first : take end whole ≡ under ++ own
  first = take_at (under ++ own) rest end (omega (arith, length-append under own, size, many, lt))

  pub own_cells : (p : Place) (count : ℕ) → count ≡ end - base → ((u : ℕ → List ℕ) → cells_in u own ≡ slice_set (replicate count None) 0 (Some (Own p))) → (u : ℕ → List ℕ) → cells_in u (drop base (take end whole)) ≡ Some (Own p) ∷ replicate (end - base - 1) None
  own_cells p count e is u =
      ap (λ l. cells_in u (drop base l)) first
      ∙ ap (cells_in u) (drop_at under own base size)
      ∙ is u
      ∙ set_first count (Some (Own p)) (omega (arith, e, lt))
      ∙ ap (λ n. Some (Own p) ∷ replicate (n - 1) None) e

  pub under_same : take base whole ≡ take base row
  under_same =
      sym (take-take base end whole (omega (arith, lt)))
      ∙ ap (take base) first
      ∙ take_at under own base size
      ∙ is_under
      ∙ take-take base end row (omega (arith, lt))
