-- What a heap and registers stand for, where names have places, and how a step of theirs follows one of the state.
use Rattle.std.specs.Prelude.{◌≡◌, ℕ, List, ◌++◌, Option, None, Bool, false}
use Rattle.vale_state_spec.specs.State.{State, Answer, gives, traps, fails}
use Rattle.vale_state_spec.specs.World.{Value}
use Rattle.vale_code.specs.Registers.{Registers, with_result}
use Rattle.vale_heap.specs.HeapState.{HeapState, innermost}
use Rattle.vale_heap.specs.Standing.{Stands}
use Rattle.vale_heap.specs.declared.body.Cell.{Cell}
use Rattle.vale_heap.specs.declared.body.Place.{Place}
use Rattle.vale_object_cells.specs.Names.{AllKnown, values_in}
use Rattle.vale_object_steps.specs.Doing.{Doing}
use Rattle.vale_object_steps.specs.declared.effect.Effect.{Effect}
use Rattle.vale_object_steps.specs.declared.effect.Effect.TheVariants as effect

-- the names with their places, the lower bound of each slot of frames that have no page, and the state
pub record View : Type 0 where
  pub names : List Place
  pub low : ℕ → ℕ → ℕ
  pub state : State

-- no page went away with an iteration
abbrev pub nobody : ℕ → Bool
nobody name = false

-- the heap stands for the state's world, and what the registers lead to has names
pub record Agrees (v : View) (heap : HeapState) (cells : List (Option Cell)) : Type 0 where
  pub stands : Stands heap None v.low nobody v.names v.state.world
  pub regions : v.state.regions ≡ innermost heap
  pub known : AllKnown v.names cells

-- names are only added, behind those that there were
pub record Grows (v w : View) : Type 0 where
  pub more : List Place
  pub names : w.names ≡ v.names ++ more
  pub low : w.low ≡ v.low

-- the rest of a state: the ticks, the pieces and what is open
pub record Steady (s t : State) : Type 0 where
  pub left : t.left ≡ s.left
  pub spent : t.spent ≡ s.spent
  pub pieces : t.pieces ≡ s.pieces
  pub frozen : t.frozen ≡ s.frozen
  pub quiet : t.quiet ≡ s.quiet

-- a rule gives the step
abbrev pub IsRight : Answer → Type 0
IsRight fails = ⊥
IsRight _ = Unit {0}

-- the step gave a value, which went to its register; heap and registers stand for the state after it
pub record Gave (v : View) (d : Doing) (heap : HeapState) (cells : List (Option Cell)) : Type 0 where
  pub view : View
  pub value : Option Value
  pub grows : Grows v view
  pub steady : Steady v.state view.state
  pub agrees : Agrees view heap cells
  pub is : d.answer ≡ gives value view.state
  pub registers : values_in view.names cells ≡ with_result d.to value d.after

abbrev pub Came : View → Doing → Effect → HeapState → List (Option Cell) → Type 0
Came v d effect.Done heap cells = Gave v d heap cells
Came v d (effect.Trap kind) heap cells = d.answer ≡ traps kind

-- Whatever names and state heap and registers stand for, what they come to follows the step, where a rule gives one.
abbrev pub Follows : (Registers → State → Doing) → HeapState → List (Option Cell) → Effect → HeapState → List (Option Cell) → Type 0
Follows step heap cells came new_heap new_cells =
    (v : View) → Agrees v heap cells → IsRight (step (values_in v.names cells) v.state).answer → Came v (step (values_in v.names cells) v.state) came new_heap new_cells

-- for some names and state that they stand for a rule gives the step
pub record CanDo (step : Registers → State → Doing) (heap : HeapState) (cells : List (Option Cell)) : Type 0 where
  pub view : View
  pub agrees : Agrees view heap cells
  pub right : IsRight (step (values_in view.names cells) view.state).answer
