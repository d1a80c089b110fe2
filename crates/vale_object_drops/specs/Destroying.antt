-- How objects are destroyed in a run with objects, as steps of the code's meaning.
use Rattle.std.specs.Prelude.{◌≡◌, ℕ, ◌+◌, ◌-◌, ◌<◌, ◌≤◌, List, [], ◌∷◌, length, take, drop, replicate, slice_set, Option, Some, None, slice_get}
use Rattle.vale_base.specs.declared.name.Kind.{Kind}
use Rattle.vale_base.specs.declared.spot.Spot.{Spot}
use Rattle.vale_state_spec.specs.State.{State}
use Rattle.vale_code.specs.Act as act
use Rattle.vale_code.specs.Destroy as destruction
use Rattle.vale_code.specs.Frames as meaning
use Rattle.vale_code.specs.Frames.{Config, Next}
use Rattle.vale_code.specs.Kinds.{destructor_of}
use Rattle.vale_code.specs.Parts.{Parts}
use Rattle.vale_code.specs.declared.func.Func.{Func}
use Rattle.vale_code.specs.declared.instr.Instr.TheVariants as i
use Rattle.vale_code.specs.declared.ty.Ty.TheVariants as t
use Rattle.vale_heap.specs.HeapState.{HeapState, IsRoot}
use Rattle.vale_heap.specs.declared.body.Cell.{Cell}
use Rattle.vale_heap.specs.declared.body.Cell.TheVariants.{Own, Iso}
use Rattle.vale_heap.specs.declared.body.Place.{Place}
use Rattle.vale_turn.specs.View.{IsRight}
use Rattle.vale_object_cells.specs.Cells.{cell_in, cells_in, held}
use Rattle.vale_object_cells.specs.Names.{Knows, value_of}
use Rattle.vale_object_cells.specs.declared.register.Register.{Register}
use Rattle.vale_object_steps.specs.Drops.{OwnedCell, first_owned_cell}
use Rattle.vale_object_steps.specs.Views.{View}
use Rattle.vale_object_passing.specs.Passing.{cells_of}
use Rattle.vale_object_frames.specs.Frames.{frames_in}
use Rattle.vale_object_frames.specs.Stacks.{rest_of}
use Rattle.vale_object_frames.specs.declared.frame.Frame.{Frame}
use Rattle.vale_object_frames.specs.declared.frame.Frame.TheVariants as frame
use Rattle.vale_object_flow.specs.Flow.{Comes, Runs, active, all_frames, below, frames_of, row_of}
use Rattle.vale_object_flow.specs.declared.control.Came.{Came}
use Rattle.vale_object_flow.specs.declared.control.Control.{Control}

-- ---- destructors

-- a destructor takes the owner of an object of its kind
pub record IsDestructor (kind : Kind) (func : Func) : Type 0 where
  pub form : func.form ≡ 3
  pub takes : func.params ≡ t.Own kind ∷ []
  pub room : 0 < func.registers

-- those that the kinds of a code name
abbrev pub HasDestructors : Parts → Type 0
HasDestructors code = (kind : Kind) (function : ℕ) (func : Func) → destructor_of code kind ≡ Some function → slice_get code.funcs function ≡ Some func → IsDestructor kind func

-- the innermost function is one whose first register has the owner of the object at a place, and whose others have nothing
pub record IsEntered (code : Parts) (function : ℕ) (place : Place) (at : Spot) (old new : Control) : Type 0 where
  pub func : Func
  pub found : slice_get code.funcs function ≡ Some func
  pub cells : (u : ℕ → List ℕ) → cells_in u (drop old.end (take (old.end + func.registers) new.registers.items)) ≡ Some (Own place) ∷ replicate (func.registers - 1) None
  pub row : take old.end new.registers.items ≡ take old.end old.registers.items
  pub many : old.end + func.registers ≤ length new.registers.items
  pub end : new.end ≡ old.end + func.registers
  pub top : new.top ≡ record { function = function; at = at; dest = None; place = 0; base = old.end }
  pub below : new.below ≡ old.below
  pub texts : new.texts ≡ old.texts

-- ---- owners and isolates

-- the frames over which an object is destroyed
abbrev pub stack_of : Parts → View → Control → List meaning.Frame
stack_of code v c = frames_in code v.names c.below c.texts (row_of c)

-- what it leads to that what a cell leads to is destroyed
abbrev pub destroy_next : Parts → View → Control → Cell → Spot → Next
destroy_next code v c cell at = destruction.destroy code (value_of v.names cell) at (stack_of code v c) v.state

-- an owner's object is the root of no isolate, and that of an isolate is its root
abbrev pub FitsRoots : HeapState → Cell → Type 0
FitsRoots heap (Own p) = IsRoot heap p → ⊥
FitsRoots heap (Iso p) = IsRoot heap p
FitsRoots heap _ = Unit {0}

-- for some names and state a rule gives the step
pub record CanDestroy (code : Parts) (depth : ℕ) (heap : HeapState) (c : Control) (left : ℕ) (cell : Cell) (at : Spot) : Type 0 where
  pub view : View
  pub runs : Runs code view heap c.below c.texts (row_of c) left
  pub known : Knows view.names (Some cell)
  pub deep : depth ≡ length c.below + view.state.frozen
  pub right : IsRight (destroy_next code view c cell at)

-- whatever names and state they stand for, so many frames and freezes being under way
abbrev pub Destroys : Parts → ℕ → HeapState → Control → ℕ → Cell → Spot → Came → HeapState → Control → ℕ → Type 0
Destroys code depth heap old left cell at told new_heap new new_left =
    (v : View) → Runs code v heap old.below old.texts (row_of old) left → Knows v.names (Some cell) → depth ≡ length old.below + v.state.frozen → IsRight (destroy_next code v old cell at)
    → Comes code v (stack_of code v old) told (destroy_next code v old cell at) new_heap new new_left

-- ---- the instruction

-- what it leads to that what a register leads to is destroyed
abbrev pub drop_step : Parts → (Config → State) → View → Control → ℕ → Spot → Next
drop_step code last v c a at = act.act code last (active code v c) (below code v c) v.state (i.Destroy a at)

-- what a register of the innermost function holds
abbrev pub own_cell : Control → ℕ → Option Cell
own_cell c a = held (cells_of c.top.base c.end c.texts c.registers.items) a

abbrev pub FitsRegister : HeapState → Control → ℕ → Type 0
FitsRegister heap c a = (cell : Cell) → own_cell c a ≡ Some cell → FitsRoots heap cell

pub record CanDrop (code : Parts) (depth : ℕ) (heap : HeapState) (c : Control) (left : ℕ) (a : ℕ) (at : Spot) : Type 0 where
  pub last : Config → State
  pub view : View
  pub runs : Runs code view heap (all_frames c) c.texts (row_of c) left
  pub deep : depth ≡ length (all_frames c) + view.state.frozen
  pub right : IsRight (drop_step code last view c a at)

abbrev pub Drops : Parts → ℕ → HeapState → Control → ℕ → ℕ → Spot → Came → HeapState → Control → ℕ → Type 0
Drops code depth heap old left a at told new_heap new new_left =
    (last : Config → State) (v : View) → Runs code v heap (all_frames old) old.texts (row_of old) left → depth ≡ length (all_frames old) + v.state.frozen → IsRight (drop_step code last v old a at)
    → Comes code v (frames_of code v old) told (drop_step code last v old a at) new_heap new new_left

-- what leads to an object left its register
pub record IsLifted (base end a : ℕ) (row : List Register) (cell : Cell) (new : List Register) : Type 0 where
  pub held_it : (u : ℕ → List ℕ) → held (cells_in u (drop base (take end row))) a ≡ Some cell
  pub empty : Register
  pub holds_nothing : (x : List ℕ) → cell_in empty x ≡ None
  pub is : new ≡ slice_set row (base + a) empty

-- an owner or an isolate
abbrev pub IsOwned : Cell → Type 0
IsOwned (Own p) = Unit {0}
IsOwned (Iso p) = Unit {0}
IsOwned _ = ⊥

abbrev pub HoldsOwned : List Register → ℕ → Type 0
HoldsOwned row a = (u : ℕ → List ℕ) × (cell : Cell) × (held (cells_in u row) a ≡ Some cell) × IsOwned cell

-- ---- the next value of the innermost destruction

abbrev pub next_step : Parts → List meaning.Frame → State → Next
next_step code (meaning.Dropping f ∷ fs) s = destruction.drop_next code f fs s
next_step code _ s = meaning.wrong s

-- the next owner or isolate of a destruction fits the heap's roots
abbrev pub FitsNext : HeapState → List Frame → Type 0
FitsNext heap (frame.Dropping l ∷ fs) = (o : OwnedCell) → first_owned_cell (rest_of l) ≡ Some o → FitsRoots heap o.first
FitsNext heap _ = Unit {0}

pub record CanDropNext (code : Parts) (depth : ℕ) (heap : HeapState) (c : Control) (left : ℕ) : Type 0 where
  pub view : View
  pub runs : Runs code view heap c.below c.texts (row_of c) left
  pub deep : depth ≡ length c.below + view.state.frozen
  pub right : IsRight (next_step code (stack_of code view c) view.state)

abbrev pub DropsNextOne : Parts → ℕ → HeapState → Control → ℕ → Came → HeapState → Control → ℕ → Type 0
DropsNextOne code depth heap old left told new_heap new new_left =
    (v : View) → Runs code v heap old.below old.texts (row_of old) left → depth ≡ length old.below + v.state.frozen → IsRight (next_step code (stack_of code v old) v.state)
    → Comes code v (stack_of code v old) told (next_step code (stack_of code v old) v.state) new_heap new new_left
