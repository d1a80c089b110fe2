-- Cells that are taken from registers, and cells that go to them.
use Rattle.std.specs.Prelude.{◌<◌, ℕ, List, [], ◌∷◌, ◌++◌, length, slice_index, slice_set, Option, Some, None}
use Rattle.vale_heap.specs.declared.body.Cell.{Cell}
use Rattle.vale_object_cells.specs.Cells.{held, kept_cells}

-- cells that were kept, and what the registers hold after that
pub record Kept : Type 0 where
  pub cells : List Cell
  pub after : List (Option Cell)

abbrev pub kept_then : Option Cell → (Cell → Option Kept) → Option Kept
kept_then None go = None
kept_then (Some c) go = go c

-- what these registers hold is kept behind cells that were kept before
abbrev pub keep_from : List Cell → List ℕ → List (Option Cell) → Option Kept
keep_from before [] now = Some (record { cells = before; after = now })
keep_from before (r ∷ rs) now = kept_then (held now r) (λ c. keep_from (before ++ c ∷ []) rs (kept_cells (held now r) r now))

-- registers get cells, in order
abbrev pub fill_from : List ℕ → List Cell → List (Option Cell) → List (Option Cell)
fill_from [] cells now = now
fill_from (r ∷ rs) [] now = now
fill_from (r ∷ rs) (c ∷ cs) now = fill_from rs cs (slice_set now r (Some c))

-- each of these is the number of one of so many registers
abbrev pub AreBelow : List ℕ → ℕ → Type 0
AreBelow rs count = (k : ℕ) → k < length rs → slice_index rs k < count
