-- What is printed of registers that may lead to objects.
use Rattle.std.specs.Prelude.{◌≡◌, ℕ, List, [], ◌∷◌, ◌++◌, Option, Some, None}
use Rattle.vale_base.specs.declared.piece.Piece.{Piece}
use Rattle.vale_state_spec.specs.State.{printed, shown}
use Rattle.vale_state_spec.specs.World.{Value}
use Rattle.vale_code.specs.Registers.{read}
use Rattle.vale_code.specs.declared.instr.Instr.{Instr}
use Rattle.vale_heap.specs.HeapState.{HeapState}
use Rattle.vale_heap.specs.declared.body.Cell.{Cell}
use Rattle.vale_heap.specs.declared.body.Place.{Place}
use Rattle.vale_turn.specs.View.{IsRight}
use Rattle.vale_turn.specs.declared.stop.Stop.{Stop}
use Rattle.vale_object_cells.specs.Names.{values_in}
use Rattle.vale_object_steps.specs.Views.{View}
use Rattle.vale_object_turn.specs.Steps.{Runs, Scene, Stepped, next_of}

-- what is printed of a value that may be there
abbrev pub shown_of : Option Value → Option (List ℕ)
shown_of None = None
shown_of (Some v) = shown v

-- what is printed of a register, by names
abbrev pub shown_in : List Place → List (Option Cell) → ℕ → Option (List ℕ)
shown_in names cells r = shown_of (read (values_in names cells) r)

-- the same names after these bytes were printed
abbrev pub after_printing : List ℕ → View → View
after_printing bytes v = record v { state = printed bytes v.state }

-- Whatever is around the function, and whatever names and state it stands for, these bytes are printed by the step that a rule
-- gives.
abbrev pub Prints : List ℕ → Instr → HeapState → List (Option Cell) → ℕ → ℕ → Stop → ℕ → Type 0
Prints bytes instr heap cells place left told new_place =
    (s : Scene) (v : View) → Runs v heap cells left → IsRight (next_of s v place cells instr) → Stepped s (after_printing bytes v) place cells told (next_of s v place cells instr) heap cells new_place left

-- one more piece, of what the step prints
pub record HasPrinted (instr : Instr) (cells : List (Option Cell)) (place spent : ℕ) (old : List Piece) (told : Stop) (new_place : ℕ) (new : List Piece) : Type 0 where
  pub bytes : List ℕ
  pub pieces : new ≡ old ++ record { tick = spent; bytes = bytes } ∷ []
  pub step : (heap : HeapState) (left : ℕ) → Prints bytes instr heap cells place left told new_place
