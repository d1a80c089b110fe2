-- How functions are entered and left in a run with objects, and how objects are destroyed, as steps of the code's meaning.
use Rattle.std.specs.Prelude.{◌≡◌, ℕ, ◌+◌, ◌-◌, ◌≤◌, List, [], ◌∷◌, length, take, drop, Option, Some, None, true, slice_get}
use Rattle.vale_base.specs.declared.spot.Spot.{Spot}
use Rattle.vale_state_spec.specs.Outcome.{Done, Cut}
use Rattle.vale_state_spec.specs.State.{State}
use Rattle.vale_state_spec.specs.World.{Value}
use Rattle.vale_code.specs.Act as act
use Rattle.vale_code.specs.Frames as meaning
use Rattle.vale_code.specs.Frames.{Config, Next, Over, on, trap}
use Rattle.vale_code.specs.Kinds.{result_to}
use Rattle.vale_code.specs.Parts.{Parts}
use Rattle.vale_code.specs.declared.func.Func.{Func}
use Rattle.vale_code.specs.declared.instr.Instr.TheVariants as i
use Rattle.vale_heap.specs.HeapState.{HeapState, innermost}
use Rattle.vale_heap.specs.Standing.{Stands}
use Rattle.vale_registers.specs.Cells.{HasRegister}
use Rattle.vale_turn.specs.View.{IsRight}
use Rattle.vale_object_cells.specs.Names.{values_in}
use Rattle.vale_object_cells.specs.declared.register.Register.{Register}
use Rattle.vale_object_steps.specs.Views.{Grows, Steady, View, nobody}
use Rattle.vale_object_passing.specs.Passing.{cells_of}
use Rattle.vale_object_frames.specs.Frames.{AreKnown, Lie, active_of, frames_in}
use Rattle.vale_object_frames.specs.Stacks.{is_dropping}
use Rattle.vale_object_frames.specs.declared.frame.Active.{Active}
use Rattle.vale_object_frames.specs.declared.frame.Frame.{Frame}
use Rattle.vale_object_frames.specs.declared.frame.Frame.TheVariants as frame
use Rattle.vale_object_flow.specs.declared.control.Came.{Came}
use Rattle.vale_object_flow.specs.declared.control.Came.TheVariants as came
use Rattle.vale_object_flow.specs.declared.control.Control.{Control}

-- the registers of all frames; those behind them are kept for later calls
abbrev pub row_of : Control → List Register
row_of c = take c.end c.registers.items

-- all frames while a function runs, the innermost first
abbrev pub all_frames : Control → List Frame
all_frames c = frame.Running c.top ∷ c.below

-- Heap, these frames, over a row of registers and their texts, and the ticks left stand for these names and this state.
pub record Runs (code : Parts) (v : View) (heap : HeapState) (frames : List Frame) (texts : List (List ℕ)) (row : List Register) (left : ℕ) : Type 0 where
  pub stands : Stands heap None v.low nobody v.names v.state.world
  pub regions : v.state.regions ≡ innermost heap
  pub known : AreKnown v.names frames texts row
  pub ticks_left : v.state.left ≡ left
  pub lie : Lie code frames (length row)

-- a run that goes on with these frames
abbrev pub on_frames : List meaning.Frame → State → Next
on_frames [] s = Over Done None s
on_frames (f ∷ fs) s = on f fs s

-- What these frames stand for now is what the step leads to. Ticks that are spent are no longer left.
pub record GoesOn (code : Parts) (v : View) (next : Next) (heap : HeapState) (frames : List Frame) (texts : List (List ℕ)) (row : List Register) (left : ℕ) : Type 0 where
  pub view : View
  pub grows : Grows v view
  pub runs : Runs code view heap frames texts row left
  pub ticks : view.state.spent + view.state.left ≡ v.state.spent + v.state.left
  pub pieces : view.state.pieces ≡ v.state.pieces
  pub frozen : view.state.frozen ≡ v.state.frozen
  pub is : next ≡ on_frames (frames_in code view.names frames texts row) view.state

-- What a step over these frames comes to. Where the run ends, objects may have changed before that.
abbrev pub Comes : Parts → View → List meaning.Frame → Came → Next → HeapState → Control → ℕ → Type 0
Comes code v frames came.Running next heap c left = GoesOn code v next heap (all_frames c) c.texts (row_of c) left
Comes code v frames came.Dropping next heap c left = GoesOn code v next heap c.below c.texts (row_of c) left
Comes code v frames (came.Trap kind at) next heap c left = (t : State) × Steady v.state t × (next ≡ trap kind at frames t)
Comes code v frames came.Done next heap c left = (w : Option Value) × (t : State) × Steady v.state t × (next ≡ Over Done w t)
Comes code v frames came.Cut next heap c left = (t : State) × Steady v.state t × (next ≡ Over Cut None t)

-- ---- calls

abbrev pub frames_of : Parts → View → Control → List meaning.Frame
frames_of code v c = frames_in code v.names (all_frames c) c.texts (row_of c)

abbrev pub active : Parts → View → Control → meaning.Active
active code v c = active_of code c.top (values_in v.names (cells_of c.top.base c.end c.texts c.registers.items))

abbrev pub below : Parts → View → Control → List meaning.Frame
below code v c = frames_in code v.names c.below c.texts (take c.top.base (row_of c))

-- what a call leads to
abbrev pub call_next : Parts → (Config → State) → View → Control → ℕ → ℕ → List ℕ → Spot → Next
call_next code last v c to g args at = act.call code last (active code v c) (below code v c) v.state to g args at

-- a plain function, whose registers have room for what it is given, and whose value has a register
pub record IsCallable (code : Parts) (function : ℕ) (args : List ℕ) (to : ℕ) (c : Control) : Type 0 where
  pub func : Func
  pub found : slice_get code.funcs function ≡ Some func
  pub plain : func.form ≡ 0
  pub fits : length args ≤ func.registers
  pub room : HasRegister (result_to func.result to) (c.end - c.top.base)

-- for some names and state a rule gives the step
pub record CanCall (code : Parts) (c : Control) (to function : ℕ) (args : List ℕ) (at : Spot) : Type 0 where
  pub last : Config → State
  pub heap : HeapState
  pub left : ℕ
  pub view : View
  pub runs : Runs code view heap (all_frames c) c.texts (row_of c) left
  pub right : IsRight (call_next code last view c to function args at)

-- whatever names and state they stand for, so many frames and freezes being under way
abbrev pub Calls : Parts → ℕ → Control → ℕ → ℕ → ℕ → List ℕ → Spot → Came → Control → ℕ → Type 0
Calls code depth old left to function args at told new new_left =
    (last : Config → State) (heap : HeapState) (v : View) → Runs code v heap (all_frames old) old.texts (row_of old) left → depth ≡ length (all_frames old) + v.state.frozen → IsRight (call_next code last v old to function args at)
    → Comes code v (frames_of code v old) told (call_next code last v old to function args at) heap new new_left

-- ---- what goes on where a frame is left

-- what becomes of frames, and of the innermost function
abbrev pub Rejoins : List Frame → Came → List Frame → Active → Type 0
Rejoins old came.Running new top = old ≡ frame.Running top ∷ new
Rejoins old came.Dropping new top = (is_dropping old ≡ true) × (new ≡ old)
Rejoins old came.Done new top = old ≡ []
Rejoins old _ new top = ⊥

-- the registers of the innermost function
abbrev pub own_registers : Control → List Register
own_registers c = drop c.top.base (row_of c)

-- what it leads to that the innermost function is left, with what a register holds or with no value
abbrev pub leave_next : Parts → (Config → State) → View → Control → Option ℕ → Next
leave_next code last v c None = act.act code last (active code v c) (below code v c) v.state i.RetVoid
leave_next code last v c (Some a) = act.act code last (active code v c) (below code v c) v.state (i.Ret a)

-- whatever names and state they stand for
abbrev pub Leaves : Parts → Control → Option ℕ → Came → Control → Type 0
Leaves code old from told new =
    (last : Config → State) (heap : HeapState) (v : View) (left : ℕ) → Runs code v heap (all_frames old) old.texts (row_of old) left → IsRight (leave_next code last v old from)
    → Comes code v (frames_of code v old) told (leave_next code last v old from) heap new left
