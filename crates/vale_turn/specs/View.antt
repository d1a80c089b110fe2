-- A function that runs, as a configuration of the code's meaning.
use Rattle.std.specs.Prelude.{◌≡◌, ◌≢◌, ℕ, ◌-◌, ◌≤◌, List, ◌∷◌, Option, Some, None, Bool, true, false, slice_get}
use Rattle.vale_state_spec.specs.Outcome.{Cut, Wrong}
use Rattle.vale_state_spec.specs.State.{State, trap_under}
use Rattle.vale_state_spec.specs.World.{Value}
use Rattle.vale_base.specs.declared.trap.FrameAt.{FrameAt}
use Rattle.vale_code.specs.Act.{act}
use Rattle.vale_code.specs.Frames.{Active, Frame, Running, Config, Next, On, Over, under}
use Rattle.vale_code.specs.Instructions.{fetch}
use Rattle.vale_code.specs.Parts.{Parts}
use Rattle.vale_code.specs.Run.{last_state, step, steps}
use Rattle.vale_code.specs.declared.func.Func.{Func}
use Rattle.vale_code.specs.declared.instr.Instr.{Instr}
use Rattle.vale_code.specs.declared.instr.Instr.TheVariants as i
use Rattle.vale_registers.specs.Cells.{values_in}
use Rattle.vale_turn.specs.Served.{is_aside, is_call}
use Rattle.vale_registers.specs.declared.cell.Cell.{Cell}
use Rattle.vale_turn.specs.declared.stop.Stop.{Stop}
use Rattle.vale_turn.specs.declared.stop.Stop.TheVariants as stop

-- what is around a function that runs: its call, the register below for its value, the frames below, the rest of the state, the
-- ticks that the run was given, and the texts of its registers
pub record Scene : Type 0 where
  pub call : FrameAt
  pub dest : Option ℕ
  pub below : List Frame
  pub state : State
  pub given : ℕ
  pub text : ℕ → List ℕ

abbrev pub active : ℕ → Scene → ℕ → List Cell → Active
active function s place cells = record { call = s.call; function = function; dest = s.dest; place = place; registers = values_in s.text cells }

-- the ticks spent are those given and not left
abbrev pub state_at : Scene → ℕ → State
state_at s left = record (s.state) { left = left; spent = s.given - left }

abbrev pub config : ℕ → Scene → ℕ → List Cell → ℕ → Config
config function s place cells left = record { top = Running (active function s place cells); below = s.below; state = state_at s left }

-- what an instruction leads to
abbrev pub next_of : Parts → ℕ → Scene → ℕ → List Cell → ℕ → Instr → Next
next_of code function s place cells left instr = act code (last_state code) (active function s place cells) s.below (state_at s left) instr

pub record IsBody (code : Parts) (function : ℕ) (body : List Instr) : Type 0 where
  pub func : Func
  pub found : slice_get code.funcs function ≡ Some func
  pub is : func.body ≡ body

-- a rule gives the step
abbrev pub IsRight : Next → Type 0
IsRight (Over Wrong v s) = ⊥
IsRight _ = Unit {0}

-- somewhere the instruction has a rule
pub record HasRule (body : List Instr) (place : ℕ) (cells : List Cell) (left : ℕ) (instr : Instr) : Type 0 where
  pub code : Parts
  pub function : ℕ
  pub scene : Scene
  pub is_body : IsBody code function body
  pub ticks : left ≤ scene.given
  pub right : IsRight (next_of code function scene place cells left instr)

-- what an instruction comes to is what it leads to
abbrev pub Obeyed : ℕ → Scene → Stop → Next → ℕ → List Cell → ℕ → Type 0
Obeyed function s stop.Going next place cells left = next ≡ On (config function s place cells left)
Obeyed function s stop.Aside next place cells left = Unit {0}
Obeyed function s stop.Enters next place cells left = Unit {0}
Obeyed function s (stop.Leaves from) next place cells left = Unit {0}
Obeyed function s (stop.Trap kind at) next place cells left = next ≡ Over (trap_under kind at (s.call ∷ under s.below)) None (state_at s left)
Obeyed function s stop.Cut next place cells left = next ≡ Over Cut None (state_at s left)

-- where the function doesn't go on, nothing has changed
abbrev pub IfStopped : Stop → Type 0 → Type 0
IfStopped stop.Going P = Unit {0}
IfStopped _ P = P

-- the instruction that is done elsewhere, or that enters or leaves a function
abbrev pub Leaving : Stop → Instr → Type 0
Leaving stop.Aside instr = is_aside instr ≡ true
Leaving stop.Enters instr = is_call instr ≡ true
Leaving (stop.Leaves (Some from)) instr = instr ≡ i.Ret from
Leaving (stop.Leaves None) instr = instr ≡ i.RetVoid
Leaving _ instr = Unit {0}

-- no function is entered or left, and nothing is done elsewhere
abbrev pub Stays : Stop → Type 0
Stays stop.Aside = ⊥
Stays stop.Enters = ⊥
Stays (stop.Leaves from) = ⊥
Stays _ = Unit {0}

-- the function goes on, or its instruction is done elsewhere
abbrev pub IsAside : Stop → Type 0
IsAside stop.Going = Unit {0}
IsAside stop.Aside = Unit {0}
IsAside _ = ⊥

abbrev pub is_going : Stop → Bool
is_going stop.Going = true
is_going _ = false

-- ---- a stretch of steps within one function

pub record Leads (code : Parts) (c d : Config) : Type 0 where
  pub count : ℕ
  pub on : steps code count c ≡ On d

-- no number of steps leads to where no rule gives the next one
abbrev pub IsSafe : Parts → Config → Type 0
IsSafe code c = (n : ℕ) (v : Option Value) (s : State) → steps code n c ≢ Over Wrong v s

-- why the stretch ends here
abbrev pub EndsBy : Parts → ℕ → Scene → Stop → ℕ → List Cell → ℕ → Type 0
EndsBy code function s stop.Going place cells left = ⊥
EndsBy code function s stop.Aside place cells left = (instr : Instr) × (fetch code function place ≡ Some instr) × (is_aside instr ≡ true)
EndsBy code function s stop.Enters place cells left = (instr : Instr) × (fetch code function place ≡ Some instr) × (is_call instr ≡ true)
EndsBy code function s (stop.Leaves (Some from)) place cells left = fetch code function place ≡ Some (i.Ret from)
EndsBy code function s (stop.Leaves None) place cells left = fetch code function place ≡ Some i.RetVoid
EndsBy code function s (stop.Trap kind at) place cells left = step code (config function s place cells left) ≡ Over (trap_under kind at (s.call ∷ under s.below)) None (state_at s left)
EndsBy code function s stop.Cut place cells left = step code (config function s place cells left) ≡ Over Cut None (state_at s left)

-- one instruction: its step leads on, or ends the stretch
abbrev pub OnceBy : Parts → ℕ → Scene → Stop → Config → ℕ → List Cell → ℕ → Type 0
OnceBy code function s stop.Going start place cells left = step code start ≡ On (config function s place cells left)
OnceBy code function s t start place cells left = EndsBy code function s t place cells left
