-- Which instructions make a text or read one, over registers that may lead to objects, and where what they come to goes.
use Rattle.std.specs.Prelude.{◌≡◌, ℕ, List, Option, Some, Bool, true, false}
use Rattle.vale_base.specs.declared.spot.Spot.{Spot}
use Rattle.vale_state_spec.specs.State.{Answer, State}
use Rattle.vale_code.specs.Instructions.{answered}
use Rattle.vale_code.specs.Parts.{Parts}
use Rattle.vale_code.specs.declared.instr.Instr.{Instr}
use Rattle.vale_code.specs.declared.instr.Instr.TheVariants as i
use Rattle.vale_heap.specs.HeapState.{HeapState}
use Rattle.vale_heap.specs.declared.body.Cell.{Cell}
use Rattle.vale_turn.specs.View.{IsRight}
use Rattle.vale_turn.specs.declared.stop.Stop.{Stop}
use Rattle.vale_object_cells.specs.Names.{values_in}
use Rattle.vale_object_steps.specs.Views.{View}
use Rattle.vale_object_turn.specs.Steps.{HasRule, Runs, Scene, Stepped, active, next_of}

-- those that make a text of what registers hold
abbrev pub makes_text : Instr → Bool
makes_text (i.Join to a b at) = true
makes_text (i.Slice to a x y at) = true
makes_text (i.TextOf to a) = true
makes_text _ = false

-- those that read a text into a number or a truth
abbrev pub reads_text : Instr → Bool
reads_text (i.TextLen to a) = true
reads_text (i.Byte to a x at) = true
reads_text (i.IsNum to a) = true
reads_text (i.Num to a at) = true
reads_text _ = false

-- What an operation comes to goes to a register, or is a trap, whatever is around the function, and whatever names and state it
-- stands for.
abbrev pub Lands : ℕ → Spot → (State → Answer) → List (Option Cell) → ℕ → Stop → List (Option Cell) → ℕ → Type 0
Lands to at answer cells place told new new_place =
    (heap : HeapState) (left : ℕ) (s : Scene) (v : View) → Runs v heap cells left
    → Stepped s v place cells told (answered (active s v place cells) (Some to) (values_in v.names cells) at s.below v.state (answer v.state)) heap new new_place left

-- ---- in a code

-- somewhere a rule gives the step, in this code
pub record HasRuleIn (code : Parts) (heap : HeapState) (cells : List (Option Cell)) (place left : ℕ) (instr : Instr) : Type 0 where
  pub rule : HasRule heap cells place left instr
  pub is_code : rule.scene.code ≡ code

-- whatever is around the function in this code, and whatever names and state it stands for, the step is the one that a rule gives
abbrev pub ObeysIn : Parts → Instr → HeapState → List (Option Cell) → ℕ → ℕ → Stop → HeapState → List (Option Cell) → ℕ → ℕ → Type 0
ObeysIn code instr heap cells place left told new_heap new_cells new_place new_left =
    (s : Scene) (v : View) → s.code ≡ code → Runs v heap cells left → IsRight (next_of s v place cells instr) → Stepped s v place cells told (next_of s v place cells instr) new_heap new_cells new_place new_left
