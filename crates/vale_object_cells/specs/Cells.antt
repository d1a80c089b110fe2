-- What registers hold, as the cells of objects, where each has this text.
use Rattle.std.specs.Prelude.{◌≡◌, ℕ, zero, suc, ℤ, List, [], ◌∷◌, Option, Some, None, Bool, slice_set}
use Rattle.vale_registers.specs.Passing.{from_base}
use Rattle.vale_registers.specs.Texts.{text_at}
use Rattle.vale_heap.specs.declared.body.Cell.{Cell}
use Rattle.vale_heap.specs.declared.body.Cell.TheVariants.{Int, Truth, Text, Own, Ref, Iso}
use Rattle.vale_heap.specs.declared.body.Place.{Place}
use Rattle.vale_object_cells.specs.declared.register.Register.{Register}
use Rattle.vale_object_cells.specs.declared.register.Shape.{Shape}
use Rattle.vale_object_cells.specs.declared.register.Shape.TheVariants as shape

-- what the parts of a register say: a shape, a truth, a number, a place and a text
abbrev pub cell_of : Shape → Bool → ℤ → Place → List ℕ → Option Cell
cell_of shape.Empty truth number place text = None
cell_of shape.Int truth number place text = Some (Int number)
cell_of shape.Truth truth number place text = Some (Truth truth)
cell_of shape.Text truth number place text = Some (Text text)
cell_of shape.Own truth number place text = Some (Own place)
cell_of shape.Ref truth number place text = Some (Ref place)
cell_of shape.Iso truth number place text = Some (Iso place)

abbrev pub place_of : Register → Place
place_of r = record { frame = r.frame; slot = r.slot; generation = r.generation }

abbrev pub cell_in : Register → List ℕ → Option Cell
cell_in r text = cell_of r.shape r.truth r.number (place_of r) text

abbrev pub cells_in : (ℕ → List ℕ) → List Register → List (Option Cell)
cells_in t [] = []
cells_in t (r ∷ rs) = cell_in r (t 0) ∷ cells_in (λ i. t (suc i)) rs

-- the cells of registers whose texts stand in a row from a base on
abbrev pub cells_from : ℕ → List (List ℕ) → List Register → List (Option Cell)
cells_from base texts registers = cells_in (from_base base (text_at texts)) registers

-- ---- cells

abbrev pub held : List (Option Cell) → ℕ → Option Cell
held [] r = None
held (c ∷ cs) zero = c
held (c ∷ cs) (suc r) = held cs r

-- what a cell leads to
abbrev pub place_in : Option Cell → Option Place
place_in (Some (Own p)) = Some p
place_in (Some (Ref p)) = Some p
place_in (Some (Iso p)) = Some p
place_in _ = None

-- an owner or an isolate that stays where it is: what others get is a reference to it
abbrev pub lent_cell : Cell → Cell
lent_cell (Own p) = Ref p
lent_cell (Iso p) = Ref p
lent_cell c = c

-- whoever keeps what a register holds takes an owner or an isolate out of it
abbrev pub kept_cells : Option Cell → ℕ → List (Option Cell) → List (Option Cell)
kept_cells (Some (Own p)) r cells = slice_set cells r None
kept_cells (Some (Iso p)) r cells = slice_set cells r None
kept_cells _ r cells = cells

-- ---- what a register holds, whatever the texts are

abbrev pub HoldsInt : List Register → ℕ → Type 0
HoldsInt registers r = (t : ℕ → List ℕ) × (z : ℤ) × (held (cells_in t registers) r ≡ Some (Int z))

abbrev pub HoldsTruth : List Register → ℕ → Type 0
HoldsTruth registers r = (t : ℕ → List ℕ) × (b : Bool) × (held (cells_in t registers) r ≡ Some (Truth b))

abbrev pub HoldsPlace : List Register → ℕ → Type 0
HoldsPlace registers r = (t : ℕ → List ℕ) × (p : Place) × (place_in (held (cells_in t registers) r) ≡ Some p)

abbrev pub HoldsCell : List Register → ℕ → Type 0
HoldsCell registers r = (t : ℕ → List ℕ) × (c : Cell) × (held (cells_in t registers) r ≡ Some c)

-- the parts of a register with this shape
pub record IsShaped (registers : List Register) (r : ℕ) (s : Shape) : Type 0 where
  pub truth : Bool
  pub number : ℤ
  pub place : Place
  pub is : (t : ℕ → List ℕ) → held (cells_in t registers) r ≡ cell_of s truth number place (t r)
