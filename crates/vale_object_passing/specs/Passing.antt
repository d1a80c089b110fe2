-- How values go from registers to registers of other functions.
use Rattle.std.specs.Prelude.{◌≡◌, ◌≢◌, ℕ, ◌+◌, ◌-◌, ◌<◌, List, [], ◌∷◌, ◌++◌, length, take, drop, replicate, slice_set, Option, Some, None, Bool, false, pos}
use Rattle.vale_code.specs.declared.ty.Ty.{Ty}
use Rattle.vale_registers.specs.Texts.{text_at}
use Rattle.vale_heap.specs.declared.body.Cell.{Cell}
use Rattle.vale_heap.specs.declared.body.Cell.TheVariants.{Ref}
use Rattle.vale_heap.specs.declared.body.Place.{Place}
use Rattle.vale_object_cells.specs.Cells.{cell_in, cells_from, cells_in, held}
use Rattle.vale_object_cells.specs.declared.register.Register.{Register}
use Rattle.vale_object_cells.specs.declared.register.Shape.TheVariants as shape
use Rattle.vale_object_passing.specs.Giving.{Given, after_as, give_from, given_as}

abbrev pub empty : Register
empty = record { shape = shape.Empty; truth = false; slot = 0; frame = 0; number = pos 0; generation = 0 }

-- what the registers of a row from a base up to a top hold
abbrev pub cells_of : ℕ → ℕ → List (List ℕ) → List Register → List (Option Cell)
cells_of base top texts row = cells_from base texts (drop base (take top row))

-- a parameter got what a register of a frame holds
pub record IsGiven (frozen : Bool) (base from target : ℕ) (frame : List Register) (old : List (List ℕ)) (after : List Register) (to : Register) (new : List (List ℕ)) : Type 0 where
  pub cell : cell_in to (text_at new target) ≡ given_as frozen (held (cells_from base old frame) from)
  pub left : cells_from base new after ≡ after_as frozen from (cells_from base old frame)
  pub others : (i : ℕ) → i ≢ target → text_at new i ≡ text_at old i

-- parameters got what these registers of a frame hold
pub record AreGiven (base first : ℕ) (types : List Ty) (args : List ℕ) (frame : List Register) (old : List (List ℕ)) (after own : List Register) (new : List (List ℕ)) : Type 0 where
  pub all : give_from [] types args (cells_from base old frame) ≡ Some (record { cells = cells_from first new own; after = cells_from base new after })
  pub others : (i : ℕ) → i < first → text_at new i ≡ text_at old i

-- the same of the first registers of a function; the others hold nothing
pub record AreLaid (base first : ℕ) (types : List Ty) (args : List ℕ) (frame : List Register) (old : List (List ℕ)) (after own : List Register) (new : List (List ℕ)) : Type 0 where
  pub given : Given
  pub is : give_from [] types args (cells_from base old frame) ≡ Some given
  pub left : cells_from base new after ≡ given.after
  pub got : cells_from first new own ≡ given.cells ++ replicate (length own - length args) None
  pub others : (i : ℕ) → i < first → text_at new i ≡ text_at old i

-- what a method gets before its arguments
abbrev pub object_cells : Option Place → List (Option Cell)
object_cells None = []
object_cells (Some p) = Some (Ref p) ∷ []

-- the same, behind a reference to the object of a method
pub record AreEntered (base first : ℕ) (object : Option Place) (types : List Ty) (args : List ℕ) (frame : List Register) (old : List (List ℕ)) (after own : List Register) (new : List (List ℕ)) : Type 0 where
  pub given : Given
  pub is : give_from [] types args (cells_from base old frame) ≡ Some given
  pub left : cells_from base new after ≡ given.after
  pub got : cells_from first new own ≡ object_cells object ++ given.cells ++ replicate (length own - length (object_cells object) - length args) None
  pub others : (i : ℕ) → i < first → text_at new i ≡ text_at old i

-- the same of registers from a base on, where the frame's come first
pub record AreEnteredAbove (base top : ℕ) (object : Option Place) (types : List Ty) (args : List ℕ) (registers : List Register) (old : List (List ℕ)) (new : List Register) (newer : List (List ℕ)) : Type 0 where
  pub entered : AreEntered base top object types args (take (top - base) registers) old (take (top - base) new) (drop (top - base) new) newer

-- the same of a row: the registers from a base up to a top are those of the frame, and those from there to the end the function's
pub record IsPassed (base top end : ℕ) (object : Option Place) (types : List Ty) (args : List ℕ) (row : List Register) (old : List (List ℕ)) (new : List Register) (newer : List (List ℕ)) : Type 0 where
  pub given : Given
  pub is : give_from [] types args (cells_of base top old row) ≡ Some given
  pub left : cells_of base top newer new ≡ given.after
  pub got : cells_of top end newer new ≡ object_cells object ++ given.cells ++ replicate (end - top - length (object_cells object) - length args) None
  pub below : take base new ≡ take base row
  pub others : (i : ℕ) → i < top → text_at newer i ≡ text_at old i

-- ---- results

-- a cell goes to a register, where there is one for it
abbrev pub landed_in : Option ℕ → Option Cell → List (Option Cell) → List (Option Cell)
landed_in None c now = now
landed_in (Some to) c now = slice_set now to c

-- a register got what a later one holds, which may have lost its text
pub record IsMoved (from to : ℕ) (a b : Register) (old new : List (List ℕ)) : Type 0 where
  pub cell : cell_in b (text_at new to) ≡ cell_in a (text_at old from)
  pub others : (i : ℕ) → i ≢ to → i ≢ from → text_at new i ≡ text_at old i

-- a register of the frame from the base up to the top got what one above the top holds, where there is one for it
pub record IsHanded (base top : ℕ) (dest : Option ℕ) (from : ℕ) (row : List Register) (old : List (List ℕ)) (new : List Register) (newer : List (List ℕ)) : Type 0 where
  pub cells : cells_of base top newer new ≡ landed_in dest (held (cells_in (text_at old) row) from) (cells_of base top old row)
  pub below : take base new ≡ take base row
  pub others : (i : ℕ) → i < base → text_at newer i ≡ text_at old i
