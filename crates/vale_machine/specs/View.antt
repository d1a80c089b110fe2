-- The machine as a configuration of the code's meaning.
use Rattle.std.specs.Prelude.{◌≡◌, ℕ, ◌+◌, ◌-◌, ◌<◌, ◌≤◌, List, [], ◌∷◌, ◌++◌, length, take, drop, reverse, Option, Some, None, Bool, true, false, slice_get}
use Rattle.vale_state_spec.specs.Outcome.{Done, Cut}
use Rattle.vale_state_spec.specs.State.{State, Calls, trap_under}
use Rattle.vale_state_spec.specs.World.{Value}
use Rattle.vale_base.specs.declared.piece.Piece.{Piece}
use Rattle.vale_base.specs.declared.trap.FrameAt.{FrameAt}
use Rattle.vale_code.specs.Frames.{Active, Running, Config, Next, On, Over}
use Rattle.vale_code.specs.Frames as frames
use Rattle.vale_code.specs.Kinds.{text_at}
use Rattle.vale_code.specs.Parts.{Parts}
use Rattle.vale_code.specs.Registers.{Registers}
use Rattle.vale_code.specs.declared.func.Func.{Func}
use Rattle.vale_registers.specs.Cells.{values_in}
use Rattle.vale_registers.specs.Passing.{from_base}
use Rattle.vale_registers.specs.Texts as texts
use Rattle.vale_registers.specs.declared.cell.Cell.{Cell}
use Rattle.vale_turn.specs.View.{Scene}
use Rattle.vale_machine.specs.declared.machine.Frame.{Frame}
use Rattle.vale_machine.specs.declared.machine.Machine.{Machine}
use Rattle.vale_machine.specs.declared.machine.Step.{Step}
use Rattle.vale_machine.specs.declared.machine.Step.TheVariants as step

-- ---- the machine's parts

abbrev pub name_in : Parts → Option Func → List ℕ
name_in code None = []
name_in code (Some func) = text_at code func.name

-- the call of a frame, which has the name of its function
abbrev pub call_of : Parts → Frame → FrameAt
call_of code f = record { what = name_in code (slice_get code.funcs f.function); at = f.at }

abbrev pub calls_of : Parts → List Frame → Calls
calls_of code [] = []
calls_of code (f ∷ fs) = call_of code f ∷ calls_of code fs

abbrev pub active_of : Parts → Frame → Registers → Active
active_of code f registers = record { call = call_of code f; function = f.function; dest = f.dest; place = f.place; registers = registers }

-- Frames, the innermost first. Their registers lie in these cells, and each has those from its base on to the next frame's.
abbrev pub frames_in : Parts → List Frame → (ℕ → List ℕ) → List Cell → List frames.Frame
frames_in code [] t cells = []
frames_in code (f ∷ fs) t cells = Running (active_of code f (values_in (from_base f.base t) (drop f.base cells))) ∷ frames_in code fs t (take f.base cells)

-- the frames of a machine, the innermost first
abbrev pub frames_of : Machine → List Frame
frames_of m = m.top ∷ reverse m.below.items

abbrev pub all_texts : Machine → ℕ → List ℕ
all_texts m = texts.text_at m.texts

-- the cells of all frames; those behind them are kept for later calls
abbrev pub row_of : Machine → List Cell
row_of m = take m.end m.cells.items

-- the cells and the texts of the innermost frame
abbrev pub own_cells : Machine → List Cell
own_cells m = drop m.top.base (row_of m)

abbrev pub own_texts : Machine → ℕ → List ℕ
own_texts m = from_base m.top.base (all_texts m)

abbrev pub registers_of : Machine → Registers
registers_of m = values_in (own_texts m) (own_cells m)

abbrev pub active : Parts → Machine → Active
active code m = active_of code m.top (registers_of m)

abbrev pub below : Parts → Machine → List frames.Frame
below code m = frames_in code (reverse m.below.items) (all_texts m) (take m.top.base (row_of m))

-- a state by its ticks and pieces
abbrev pub state_with : ℕ → ℕ → List Piece → State
state_with left spent pieces = record { left = left; spent = spent; pieces = pieces; world = []; regions = 0; frozen = 0; most = 0; made = 0; quiet = false }

-- the state, where these pieces were taken before
abbrev pub state_of : List Piece → Machine → State
state_of taken m = state_with m.left (m.given - m.left) (taken ++ m.pieces.items)

abbrev pub config_of : Parts → List Piece → Machine → Config
config_of code taken m = record { top = Running (active code m); below = below code m; state = state_of taken m }

-- what is around the innermost function
abbrev pub scene_of : Parts → List Piece → Machine → Scene
scene_of code taken m = record {
  call = call_of code m.top;
  dest = m.top.dest;
  below = below code m;
  state = state_with 0 0 (taken ++ m.pieces.items);
  given = m.given;
  text = own_texts m;
}

-- ---- how frames lie

-- a frame is of a plain function, and its registers are the last of so many
pub record IsPlaced (code : Parts) (function base count : ℕ) : Type 0 where
  pub func : Func
  pub found : slice_get code.funcs function ≡ Some func
  pub plain : func.form ≡ 0
  pub size : base + func.registers ≡ count

-- the frame under a base has a register for a value
abbrev pub HasRoom : Option ℕ → ℕ → List Frame → Type 0
HasRoom None base fs = Unit {0}
HasRoom (Some to) base [] = Unit {0}
HasRoom (Some to) base (f ∷ fs) = f.base + to < base

-- frames, the innermost first, lie one on the other in so many cells
abbrev pub Lie : Parts → List Frame → ℕ → Type 0
Lie code [] count = Unit {0}
Lie code (f ∷ fs) count = IsPlaced code f.function f.base count × HasRoom f.dest f.base fs × Lie code fs f.base

-- the frames of a machine lie one on the other in the cells that are theirs
pub record IsLaid (code : Parts) (m : Machine) : Type 0 where
  pub lie : Lie code (frames_of m) m.end
  pub there : m.end ≤ length m.cells.items

-- ---- what a step comes to

-- A step of the machine is one of the code's meaning, where these pieces were taken before; of the want of memory `KeepsPieces`
-- tells.
abbrev pub Stepped : Parts → List Piece → Step → Next → Machine → Type 0
Stepped code taken step.Going next m = next ≡ On (config_of code taken m)
Stepped code taken (step.Trap kind at) next m = next ≡ Over (trap_under kind at (calls_of code (frames_of m))) None (state_of taken m)
Stepped code taken step.Done next m = (v : Option Value) × (next ≡ Over Done v (state_of taken m))
Stepped code taken step.Cut next m = next ≡ Over Cut None (state_of taken m)
Stepped code taken step.Memory next m = Unit {0}

-- where memory is wanting, a step has printed nothing
abbrev pub KeepsPieces : Step → Machine → Machine → Type 0
KeepsPieces step.Memory old new = new.pieces.items ≡ old.pieces.items
KeepsPieces _ old new = Unit {0}

-- whether the machine goes on
abbrev pub is_going : Step → Bool
is_going step.Going = true
is_going _ = false

abbrev pub IsOver : Step → Type 0
IsOver step.Going = ⊥
IsOver _ = Unit {0}

-- where the machine goes on, this holds
abbrev pub IfGoing : Step → Type 0 → Type 0
IfGoing step.Going P = P
IfGoing _ P = Unit {0}

-- ticks are only spent
pub record KeepsTicks (old new : Machine) : Type 0 where
  pub given : new.given ≡ old.given
  pub left : new.left ≤ old.left

-- memory wasn't wanting
abbrev pub HasMemory : Step → Type 0
HasMemory step.Memory = ⊥
HasMemory _ = Unit {0}

-- the innermost function goes on: only its registers, its place and the ticks are others
pub record GoesOn (old new : Machine) : Type 0 where
  pub top : new.top ≡ record old.top { place = new.top.place }
  pub below : new.below ≡ old.below
  pub texts : new.texts ≡ old.texts
  pub end : new.end ≡ old.end
  pub cells : length new.cells.items ≡ length old.cells.items
  pub pieces : new.pieces ≡ old.pieces
  pub ticks : KeepsTicks old new
