-- What is under way when code runs, and what a step leads to.
use Rattle.std.specs.Prelude.{ℕ, zero, suc, ℤ, pos, ◌+ℤ◌, List, [], ◌∷◌, ◌++◌, Option, Some, None, Bool, if◌then◌else◌}
use Rattle.vale_state_spec.specs.Outcome.{End, Done, Cut, Wrong}
use Rattle.vale_state_spec.specs.State.{State, Calls, has_depth, spend, trap_under}
use Rattle.vale_state_spec.specs.World.{Value, Int}
use Rattle.vale_base.specs.declared.spot.Spot.{Spot}
use Rattle.vale_base.specs.declared.trap.FrameAt.{FrameAt}
use Rattle.vale_base.specs.declared.trap.TrapKind.{TrapKind}
use Rattle.vale_base.specs.declared.trap.TrapKind.TheVariants.{CallDepth}
use Rattle.vale_code.specs.Registers.{Registers, with_result}

-- A function: the place of its next instruction, its registers, and the register of the frame below for its value.
pub record Active : Type 0 where
  pub call : FrameAt
  pub function : ℕ
  pub dest : Option ℕ
  pub place : ℕ
  pub registers : Registers

-- A destruction: the values of the dead object that are still to be dropped.
pub record Emptying : Type 0 where
  pub call : FrameAt
  pub rest : List Value

-- what the iterations that haven't begun get: so many numbers from one on, or values
pub data Items : Type 0 where
  Numbers : ℤ → ℕ → Items
  Elements : List Value → Items

-- A parallel loop, whose iterations run one after another: its function, the values that all of them get, what the others
-- get, the number of the next one, the values that came, and whether objects were uncounted before it.
pub record Iterating : Type 0 where
  pub function : ℕ
  pub at : Spot
  pub dest : Option ℕ
  pub captured : List Value
  pub items : Items
  pub next : ℕ
  pub done : List Value
  pub quiet : Bool

-- Alone stands below an iteration that runs by itself, and gets its value.
pub data Frame : Type 0 where
  Running : Active → Frame
  Dropping : Emptying → Frame
  Looping : Iterating → Frame
  Alone : Option Value → Frame

pub record Config : Type 0 where
  pub top : Frame
  pub below : List Frame
  pub state : State

-- what a step leads to; over is also an iteration by itself, with its value
pub data Next : Type 0 where
  On : Config → Next
  Over : End → Option Value → State → Next

abbrev pub on : Frame → List Frame → State → Next
on top below s = On (record { top = top; below = below; state = s })

abbrev pub wrong : State → Next
wrong s = Over Wrong None s

-- the calls, destructions and iterations of frames
abbrev pub under : List Frame → Calls
under [] = []
under (Running f ∷ fs) = f.call ∷ under fs
under (Dropping f ∷ fs) = f.call ∷ under fs
under (Looping f ∷ fs) = under fs
under (Alone v ∷ fs) = under fs

abbrev pub trap : TrapKind → Spot → List Frame → State → Next
trap kind at frames s = Over (trap_under kind at (under frames)) None s

-- so many more may be under way over these frames
abbrev pub deeper : ℕ → Spot → List Frame → State → Next → Next
deeper more at frames s go = if has_depth more (under frames) s then go else trap CallDepth at frames s

abbrev pub ticked : Option State → State → (State → Next) → Next
ticked None s go = Over Cut None s
ticked (Some t) s go = go t

-- a tick is spent, where one is left
abbrev pub after_tick : State → (State → Next) → Next
after_tick s go = ticked (spend s) s go

-- what a frame does with the value of the one above it
abbrev pub resume : Option ℕ → Option Value → Frame → Frame
resume None v f = f
resume (Some to) None f = f
resume (Some to) (Some v) (Running f) = Running (record f { registers = with_result (Some to) (Some v) f.registers })
resume (Some to) (Some v) (Dropping f) = Dropping f
resume (Some to) (Some v) (Looping f) = Looping (record f { done = f.done ++ v ∷ [] })
resume (Some to) (Some v) (Alone o) = Alone (Some v)

-- the frame above these is left
abbrev pub leave : List Frame → Option ℕ → Option Value → State → Next
leave [] to v s = Over Done v s
leave (f ∷ fs) to v s = on (resume to v f) fs s

-- what the next iteration gets, and the items after it
pub record Item : Type 0 where
  pub first : Value
  pub rest : Items

abbrev pub next_item : Items → Option Item
next_item (Numbers x zero) = None
next_item (Numbers x (suc more)) = Some (record { first = Int x; rest = Numbers (x +ℤ pos 1) more })
next_item (Elements []) = None
next_item (Elements (v ∷ vs)) = Some (record { first = v; rest = Elements vs })

abbrev pub numbers_from : ℕ → ℤ → List Value
numbers_from zero x = []
numbers_from (suc more) x = Int x ∷ numbers_from more (x +ℤ pos 1)

-- what all iterations get
abbrev pub all_items : Items → List Value
all_items (Numbers x more) = numbers_from more x
all_items (Elements vs) = vs
