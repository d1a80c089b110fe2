-- What registers hold, as values, where each has this text.
use Rattle.std.specs.Prelude.{◌≡◌, ◌<◌, ℕ, suc, ℤ, List, [], ◌∷◌, Option, Some, None, Bool, true, false, pos}
use Rattle.vale_state_spec.specs.World.{Value, Int, Truth, Text}
use Rattle.vale_code.specs.Registers.{Registers, read}
use Rattle.vale_registers.specs.declared.cell.Cell.{Cell}
use Rattle.vale_registers.specs.declared.cell.Shape.{Shape}
use Rattle.vale_registers.specs.declared.cell.Shape.TheVariants as shape

-- what the parts of a register mean: a shape, a truth, a number and a text
abbrev pub value_of : Shape → Bool → ℤ → List ℕ → Option Value
value_of shape.Empty truth number text = None
value_of shape.Int truth number text = Some (Int number)
value_of shape.Truth truth number text = Some (Truth truth)
value_of shape.Text truth number text = Some (Text text)

abbrev pub value_in : Cell → List ℕ → Option Value
value_in cell text = value_of cell.shape cell.truth cell.number text

abbrev pub values_in : (ℕ → List ℕ) → List Cell → Registers
values_in t [] = []
values_in t (c ∷ cs) = value_in c (t 0) ∷ values_in (λ i. t (suc i)) cs

-- a register holds a number, a truth, a text, some value
abbrev pub HoldsInt : List Cell → ℕ → Type 0
HoldsInt cells r = (t : ℕ → List ℕ) × (z : ℤ) × (read (values_in t cells) r ≡ Some (Int z))

abbrev pub HoldsTruth : List Cell → ℕ → Type 0
HoldsTruth cells r = (t : ℕ → List ℕ) × (b : Bool) × (read (values_in t cells) r ≡ Some (Truth b))

abbrev pub HoldsText : List Cell → ℕ → Type 0
HoldsText cells r = (t : ℕ → List ℕ) × (x : List ℕ) × (read (values_in t cells) r ≡ Some (Text x))

abbrev pub HoldsValue : List Cell → ℕ → Type 0
HoldsValue cells r = (t : ℕ → List ℕ) × (v : Value) × (read (values_in t cells) r ≡ Some v)

-- there is a register for a value that is wanted
abbrev pub HasRegister : Option ℕ → ℕ → Type 0
HasRegister None count = Unit {0}
HasRegister (Some to) count = to < count

abbrev pub holds_text : Option Value → Bool
holds_text (Some (Text t)) = true
holds_text _ = false

-- the parts of a register with this shape
pub record IsShaped (cells : List Cell) (r : ℕ) (s : Shape) : Type 0 where
  pub truth : Bool
  pub number : ℤ
  pub is : (t : ℕ → List ℕ) → read (values_in t cells) r ≡ value_of s truth number (t r)

abbrev pub empty : Cell
empty = record { shape = shape.Empty; truth = false; number = pos 0 }
