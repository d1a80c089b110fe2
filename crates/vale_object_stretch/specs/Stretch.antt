-- A stretch of steps within one function, in a run with objects.
use Rattle.std.specs.Prelude.{◌≡◌, ◌||◌, ℕ, ◌+◌, List, ◌∷◌, Option, Some, None, Bool, true, false}
use Rattle.vale_state_spec.specs.Outcome.{Cut}
use Rattle.vale_state_spec.specs.State.{State}
use Rattle.vale_code.specs.Frames.{Config, Over, trap}
use Rattle.vale_code.specs.Instructions.{fetch}
use Rattle.vale_code.specs.Parts.{Parts}
use Rattle.vale_code.specs.Run.{last_state, step}
use Rattle.vale_code.specs.declared.instr.Instr.{Instr}
use Rattle.vale_code.specs.declared.instr.Instr.TheVariants as i
use Rattle.vale_heap.specs.HeapState.{HeapState}
use Rattle.vale_heap.specs.Standing.{LowIsFloor}
use Rattle.vale_heap.specs.declared.body.Cell.{Cell}
use Rattle.vale_turn.specs.Served.{is_call}
use Rattle.vale_turn.specs.View.{Leads}
use Rattle.vale_turn.specs.declared.stop.Stop.{Stop}
use Rattle.vale_turn.specs.declared.stop.Stop.TheVariants as stop
use Rattle.vale_object_steps.specs.Views.{Grows, View}
use Rattle.vale_object_turn.specs.Steps.{Runs, Scene, config}
use Rattle.vale_object_within.specs.Within.{HasRoomFor, ObeysWithinLent, is_within}
use Rattle.vale_object_stretch.specs.Sound.{IsSound}

-- ---- instructions

-- those that are done aside from their function's registers: an object is destroyed, or something is printed
abbrev pub is_aside : Instr → Bool
is_aside (i.Destroy a at) = true
is_aside (i.Print a choice) = true
is_aside _ = false

abbrev pub is_exit : Instr → Bool
is_exit (i.Ret a) = true
is_exit i.RetVoid = true
is_exit _ = false

abbrev pub is_served : Instr → Bool
is_served instr = is_within instr || (is_call instr || (is_exit instr || is_aside instr))

-- an instruction of a function with so many registers
pub record IsFit (instr : Instr) (count : ℕ) : Type 0 where
  pub served : is_served instr ≡ true
  pub room : HasRoomFor instr count

-- each instruction of a function
pub record AreFit (code : Parts) (function count : ℕ) : Type 0 where
  pub fit : (place : ℕ) (instr : Instr) → fetch code function place ≡ Some instr → IsFit instr count

-- where the function doesn't go on within itself, this is why
abbrev pub Leaving : Stop → Instr → Type 0
Leaving stop.Aside instr = is_aside instr ≡ true
Leaving stop.Enters instr = is_call instr ≡ true
Leaving (stop.Leaves (Some from)) instr = instr ≡ i.Ret from
Leaving (stop.Leaves None) instr = instr ≡ i.RetVoid
Leaving _ instr = Unit {0}

-- ---- one instruction

-- nothing has changed
pub record IsSame (heap : HeapState) (cells : List (Option Cell)) (place left : ℕ) (new : HeapState) (after : List (Option Cell)) (new_place new_left : ℕ) : Type 0 where
  pub heap_same : new ≡ heap
  pub cells_same : after ≡ cells
  pub place_same : new_place ≡ place
  pub left_same : new_left ≡ left

-- An instruction is obeyed within its function, or it is left to be done elsewhere.
abbrev pub Obeyed : (ℕ → Bool) → (ℕ → ℕ) → Parts → List Instr → Instr → HeapState → List (Option Cell) → ℕ → ℕ → Stop → HeapState → List (Option Cell) → ℕ → ℕ → Type 0
Obeyed out floors code body instr heap cells place left stop.Aside new after new_place new_left = IsSame heap cells place left new after new_place new_left
Obeyed out floors code body instr heap cells place left stop.Enters new after new_place new_left = IsSame heap cells place left new after new_place new_left
Obeyed out floors code body instr heap cells place left (stop.Leaves from) new after new_place new_left = IsSame heap cells place left new after new_place new_left
Obeyed out floors code body instr heap cells place left told new after new_place new_left = ObeysWithinLent out floors code body instr heap cells place left told new after new_place new_left

-- ---- a stretch

-- The function runs here, over a heap and registers that stand for these names and this state, and the run is sound from here on.
pub record IsUnderWay (code : Parts) (function : ℕ) (out : ℕ → Bool) (floors : ℕ → ℕ) (s : Scene) (v : View) (heap : HeapState) (cells : List (Option Cell)) (place left : ℕ) : Type 0 where
  pub of_code : s.code ≡ code
  pub by_last : s.last ≡ last_state code
  pub of_function : s.function ≡ function
  pub low : LowIsFloor v.low out floors
  pub runs : Runs v heap cells left
  pub sound : IsSound code (config s v place cells)

-- Ticks that are spent are no longer left; nothing is printed, and no freeze begins or ends.
pub record IsSteady (s t : State) : Type 0 where
  pub ticks : t.spent + t.left ≡ s.spent + s.left
  pub pieces : t.pieces ≡ s.pieces
  pub frozen : t.frozen ≡ s.frozen

-- steps lead from a configuration to where the function goes on so
pub record Led (code : Parts) (s : Scene) (v : View) (c : Config) (heap : HeapState) (cells : List (Option Cell)) (place left : ℕ) : Type 0 where
  pub view : View
  pub grows : Grows v view
  pub runs : Runs view heap cells left
  pub steady : IsSteady v.state view.state
  pub leads : Leads code c (config s view place cells)

-- steps lead to a configuration that has so many ticks left
pub record LedTo (code : Parts) (v : View) (c d : Config) (left : ℕ) : Type 0 where
  pub leads : Leads code c d
  pub steady : IsSteady v.state d.state
  pub ticks_left : d.state.left ≡ left

-- why a stretch ends, and where
abbrev pub Ended : Parts → Scene → View → Config → Stop → HeapState → List (Option Cell) → ℕ → ℕ → Type 0
Ended code s v c stop.Going heap cells place left = ⊥
Ended code s v c (stop.Trap kind at) heap cells place left = (d : Config) × LedTo code v c d left × (step code d ≡ trap kind at (d.top ∷ d.below) d.state)
Ended code s v c stop.Cut heap cells place left = (d : Config) × LedTo code v c d left × (step code d ≡ Over Cut None d.state)
Ended code s v c told heap cells place left = Led code s v c heap cells place left × ((instr : Instr) × (fetch code s.function place ≡ Some instr) × Leaving told instr)
