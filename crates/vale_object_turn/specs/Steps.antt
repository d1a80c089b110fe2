-- A function that runs over a heap, as a configuration of the code's meaning, where names have places.
use Rattle.std.specs.Prelude.{◌≡◌, ℕ, ◌+◌, List, ◌∷◌, Option, None, Bool}
use Rattle.vale_base.specs.declared.trap.FrameAt.{FrameAt}
use Rattle.vale_state_spec.specs.Outcome.{Cut}
use Rattle.vale_state_spec.specs.State.{State}
use Rattle.vale_code.specs.Act.{act}
use Rattle.vale_code.specs.Frames.{Active, Config, Frame, Next, On, Over, Running, trap}
use Rattle.vale_code.specs.Parts.{Parts}
use Rattle.vale_code.specs.declared.instr.Instr.{Instr}
use Rattle.vale_heap.specs.HeapState.{HeapState}
use Rattle.vale_heap.specs.Standing.{LowIsFloor}
use Rattle.vale_heap.specs.declared.body.Cell.{Cell}
use Rattle.vale_turn.specs.View.{IsRight}
use Rattle.vale_turn.specs.declared.stop.Stop.{Stop}
use Rattle.vale_turn.specs.declared.stop.Stop.TheVariants as stop
use Rattle.vale_object_cells.specs.Names.{values_in}
use Rattle.vale_object_steps.specs.Views.{Agrees, Grows, View}

-- what is around the function: the code, how iterations by themselves end, its number, its call, the register below for its
-- value, and the frames below
pub record Scene : Type 0 where
  pub code : Parts
  pub last : Config → State
  pub function : ℕ
  pub call : FrameAt
  pub dest : Option ℕ
  pub below : List Frame

abbrev pub active : Scene → View → ℕ → List (Option Cell) → Active
active s v place cells = record { call = s.call; function = s.function; dest = s.dest; place = place; registers = values_in v.names cells }

abbrev pub config : Scene → View → ℕ → List (Option Cell) → Config
config s v place cells = record { top = Running (active s v place cells); below = s.below; state = v.state }

-- what an instruction leads to
abbrev pub next_of : Scene → View → ℕ → List (Option Cell) → Instr → Next
next_of s v place cells instr = act s.code s.last (active s v place cells) s.below v.state instr

-- heap, registers and the ticks left stand for these names and this state
pub record Runs (v : View) (heap : HeapState) (cells : List (Option Cell)) (left : ℕ) : Type 0 where
  pub agrees : Agrees v heap cells
  pub ticks_left : v.state.left ≡ left

-- somewhere a rule gives the step
pub record HasRule (heap : HeapState) (cells : List (Option Cell)) (place left : ℕ) (instr : Instr) : Type 0 where
  pub scene : Scene
  pub view : View
  pub runs : Runs view heap cells left
  pub right : IsRight (next_of scene view place cells instr)

-- The function goes on: what it stands for now is what the step leads to. Ticks that are spent are no longer left.
pub record GoesOn (s : Scene) (v : View) (next : Next) (heap : HeapState) (cells : List (Option Cell)) (place left : ℕ) : Type 0 where
  pub view : View
  pub grows : Grows v view
  pub runs : Runs view heap cells left
  pub ticks : view.state.spent + view.state.left ≡ v.state.spent + v.state.left
  pub pieces : view.state.pieces ≡ v.state.pieces
  pub frozen : view.state.frozen ≡ v.state.frozen
  pub is : next ≡ On (config s view place cells)

-- what a step comes to, from the place at which it began
abbrev pub Stepped : Scene → View → ℕ → List (Option Cell) → Stop → Next → HeapState → List (Option Cell) → ℕ → ℕ → Type 0
Stepped s v from old stop.Going next heap cells place left = GoesOn s v next heap cells place left
Stepped s v from old (stop.Trap kind at) next heap cells place left = next ≡ trap kind at (Running (active s v from old) ∷ s.below) v.state
Stepped s v from old stop.Cut next heap cells place left = next ≡ Over Cut None v.state
Stepped s v from old _ next heap cells place left = ⊥

-- whatever is around the function, and whatever names and state it stands for, the step is the one that a rule gives
abbrev pub Obeys : Instr → HeapState → List (Option Cell) → ℕ → ℕ → Stop → HeapState → List (Option Cell) → ℕ → ℕ → Type 0
Obeys instr heap cells place left told new_heap new_cells new_place new_left =
    (s : Scene) (v : View) → Runs v heap cells left → IsRight (next_of s v place cells instr) → Stepped s v place cells told (next_of s v place cells instr) new_heap new_cells new_place new_left

-- the same, where `low` has the lender's floors
abbrev pub ObeysLent : (ℕ → Bool) → (ℕ → ℕ) → Instr → HeapState → List (Option Cell) → ℕ → ℕ → Stop → HeapState → List (Option Cell) → ℕ → ℕ → Type 0
ObeysLent out floors instr heap cells place left told new_heap new_cells new_place new_left =
    (s : Scene) (v : View) → LowIsFloor v.low out floors → Runs v heap cells left → IsRight (next_of s v place cells instr) → Stepped s v place cells told (next_of s v place cells instr) new_heap new_cells new_place new_left
