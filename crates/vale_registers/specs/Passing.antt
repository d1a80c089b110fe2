-- How values go from registers to registers, with their texts.
use Rattle.std.specs.Prelude.{◌≡◌, ◌≢◌, ℕ, ◌+◌, ◌-◌, ◌<◌, List, ◌++◌, length, take, drop, map, replicate, slice_index, slice_set, Option, None}
use Rattle.vale_state_spec.specs.World.{Value}
use Rattle.vale_code.specs.Registers.{Registers, read, with_result}
use Rattle.vale_registers.specs.Cells.{value_in, values_in}
use Rattle.vale_registers.specs.Texts.{text_at}
use Rattle.vale_registers.specs.declared.cell.Cell.{Cell}

-- the texts of registers from a base on
abbrev pub from_base : ℕ → (ℕ → List ℕ) → ℕ → List ℕ
from_base base t i = t (base + i)

-- what the last of these registers hold, from a base on
abbrev pub values_from : ℕ → List (List ℕ) → List Cell → Registers
values_from base texts cells = values_in (from_base base (text_at texts)) (drop base cells)

-- registers from a base on are among so many
abbrev pub AreWithin : List ℕ → ℕ → ℕ → Type 0
AreWithin args base count = (k : ℕ) → k < length args → base + slice_index args k < count

-- a register got what another one holds
pub record IsShared (from to : ℕ) (a b : Cell) (old new : List (List ℕ)) : Type 0 where
  pub value : value_in b (text_at new to) ≡ value_in a (text_at old from)
  pub others : (i : ℕ) → i ≢ to → text_at new i ≡ text_at old i

-- the same, where the other one may have lost its text
pub record IsMoved (from to : ℕ) (a b : Cell) (old new : List (List ℕ)) : Type 0 where
  pub value : value_in b (text_at new to) ≡ value_in a (text_at old from)
  pub others : (i : ℕ) → i ≢ to → i ≢ from → text_at new i ≡ text_at old i

-- registers behind a row got what these of it hold
pub record AreShared (base : ℕ) (args : List ℕ) (row : List Cell) (old : List (List ℕ)) (to : List Cell) (new : List (List ℕ)) : Type 0 where
  pub all : values_in (from_base (length row) (text_at new)) to ≡ map (read (values_from base old row)) args
  pub others : (i : ℕ) → i < length row → text_at new i ≡ text_at old i

-- registers behind a row: the first got what these of it hold, and the others hold nothing
pub record AreLaid (base : ℕ) (args : List ℕ) (row : List Cell) (old : List (List ℕ)) (own : List Cell) (new : List (List ℕ)) : Type 0 where
  pub all : values_in (from_base (length row) (text_at new)) own ≡ map (read (values_from base old row)) args ++ replicate (length own - length args) None
  pub others : (i : ℕ) → i < length row → text_at new i ≡ text_at old i

-- the same of registers from the top to the end
pub record IsPassed (base top end : ℕ) (args : List ℕ) (cells : List Cell) (old : List (List ℕ)) (new : List Cell) (newer : List (List ℕ)) : Type 0 where
  pub row : take top new ≡ take top cells
  pub own : values_from top newer (take end new) ≡ map (read (values_from base old (take top cells))) args ++ replicate (end - top - length args) None
  pub others : (i : ℕ) → i < top → text_at newer i ≡ text_at old i

-- a register under the top got what another one held
pub record IsGiven (top to from : ℕ) (cells : List Cell) (old : List (List ℕ)) (new : List Cell) (newer : List (List ℕ)) : Type 0 where
  pub cell : Cell
  pub is : take top new ≡ slice_set (take top cells) to cell
  pub value : value_in cell (text_at newer to) ≡ read (values_in (text_at old) cells) from
  pub others : (i : ℕ) → i ≢ to → i ≢ from → text_at newer i ≡ text_at old i

-- a register of the frame from the base on, under the top, got this value, where it is to have one
pub record IsHanded (base top : ℕ) (dest : Option ℕ) (v : Option Value) (cells : List Cell) (old : List (List ℕ)) (new : List Cell) (newer : List (List ℕ)) : Type 0 where
  pub size : length new ≡ length cells
  pub above : values_from base newer (take top new) ≡ with_result dest v (values_from base old (take top cells))
  pub below : take base new ≡ take base cells
  pub others : (i : ℕ) → i < base → text_at newer i ≡ text_at old i
