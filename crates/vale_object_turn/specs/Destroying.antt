-- How the destruction of an object begins: its destructor is entered, or it dies and what it held is to be dropped.
use Rattle.std.specs.Prelude.{◌≡◌, ℕ, ◌+◌, ◌-◌, ◌<◌, List, [], ◌∷◌, length, map, Option, Some, None, slice_get}
use Rattle.vale_base.specs.declared.spot.Spot.{Spot}
use Rattle.vale_state_spec.specs.Outcome.{Cut}
use Rattle.vale_state_spec.specs.State.{dies, drop_frame}
use Rattle.vale_state_spec.specs.World.{Lives, Object, Own}
use Rattle.vale_code.specs.Destroy.{destroy_by}
use Rattle.vale_code.specs.Frames.{Dropping, Frame, Next, Over, Running, on, trap, under}
use Rattle.vale_code.specs.Kinds.{destructor_of, kind_text}
use Rattle.vale_code.specs.Parts.{Parts}
use Rattle.vale_code.specs.Registers.{registers_for}
use Rattle.vale_code.specs.declared.func.Func.{Func}
use Rattle.vale_heap.specs.HeapState.{HeapState}
use Rattle.vale_heap.specs.declared.body.Cell.{Cell}
use Rattle.vale_heap.specs.declared.body.Place.{Place}
use Rattle.vale_turn.specs.View.{IsRight}
use Rattle.vale_object_cells.specs.Names.{IsKnown, name_at, value_of}
use Rattle.vale_object_steps.specs.Drops.{HasEnded}
use Rattle.vale_object_steps.specs.Views.{View}
use Rattle.vale_object_turn.specs.Steps.{Runs}
use Rattle.vale_object_turn.specs.declared.destroy.Onset.{Onset}
use Rattle.vale_object_turn.specs.declared.destroy.Onset.TheVariants as onset

-- the same names after a tick
abbrev pub after_tick_of : View → View
after_tick_of v = record v { state = record (v.state) { left = v.state.left - 1; spent = v.state.spent + 1 } }

-- the destructor of the object's kind, as a function that is entered with its owner
abbrev pub destructor_frame : Parts → ℕ → Func → Object → Spot → ℕ → Frame
destructor_frame code f func o at n = Running (record { call = drop_frame (kind_text code o.kind) at; function = f; dest = None; place = 0; registers = registers_for func.registers (Own n ∷ []) })

abbrev pub Begun : Parts → View → Object → Place → Spot → List Frame → List (Option Cell) → Onset → Next → HeapState → ℕ → Type 0
Begun code v o p at frames cells (onset.Enters f) next heap left =
    (func : Func) × (destructor_of code o.kind ≡ Some f) × (slice_get code.funcs f ≡ Some func) × (next ≡ on (destructor_frame code f func o at (name_at v.names p)) frames (after_tick_of v).state) × Runs (after_tick_of v) heap cells left × (0 < v.state.left)
Begun code v o p at frames cells (onset.Dies body) next heap left =
    (next ≡ on (Dropping (record { call = drop_frame (kind_text code o.kind) at; rest = map (value_of v.names) body.cells })) frames (dies (name_at v.names p) (after_tick_of v).state))
    × HasEnded (after_tick_of v) o p cells heap body × ((after_tick_of v).state.left ≡ left) × (0 < v.state.left)
Begun code v o p at frames cells (onset.Trap kind) next heap left = next ≡ trap kind at frames v.state
Begun code v o p at frames cells onset.Cut next heap left = next ≡ Over Cut None v.state

-- whatever names and state heap and registers stand for, over whatever frames, so many of which are under way
abbrev pub Begins : Parts → Place → ℕ → HeapState → ℕ → Onset → HeapState → ℕ → Type 0
Begins code p depth heap left told new new_left =
    (v : View) (cells : List (Option Cell)) (o : Object) (at : Spot) (frames : List Frame) → Runs v heap cells left → IsKnown v.names p → Lives v.state.world (name_at v.names p) o
    → depth ≡ length (under frames) + v.state.frozen → IsRight (destroy_by code (destructor_of code o.kind) (name_at v.names p) o at frames v.state)
    → Begun code v o p at frames cells told (destroy_by code (destructor_of code o.kind) (name_at v.names p) o at frames v.state) new new_left
