-- Which instructions go on within their function, over registers that may lead to objects, and what obeying one of them means.
use Rattle.std.specs.Prelude.{◌≡◌, ◌||◌, ℕ, ◌<◌, List, Option, Some, Bool, true}
use Rattle.vale_code.specs.Parts.{Parts}
use Rattle.vale_code.specs.declared.instr.Instr.{Instr}
use Rattle.vale_code.specs.declared.instr.Instr.TheVariants as i
use Rattle.vale_heap.specs.HeapState.{HeapState, IsRoot}
use Rattle.vale_heap.specs.Standing.{LowIsFloor}
use Rattle.vale_heap.specs.declared.body.Cell.{Cell}
use Rattle.vale_heap.specs.declared.body.Place.{Place}
use Rattle.vale_registers.specs.Cells.{HasRegister}
use Rattle.vale_turn.specs.Served.{register_of}
use Rattle.vale_turn.specs.View.{IsBody, IsRight}
use Rattle.vale_turn.specs.declared.stop.Stop.{Stop}
use Rattle.vale_object_cells.specs.Cells.{held, place_in}
use Rattle.vale_object_steps.specs.Keeping.{AreBelow}
use Rattle.vale_object_steps.specs.Views.{View}
use Rattle.vale_object_turn.specs.Objects.{is_change, is_look, is_reference, written_by}
use Rattle.vale_object_turn.specs.Steps.{HasRule, Runs, Scene, Stepped, next_of}
use Rattle.vale_object_numbers.specs.Numbers.{is_jump, is_number}
use Rattle.vale_object_texts.specs.Texts.{makes_text, reads_text}

-- those on texts
abbrev pub is_on_text : Instr → Bool
is_on_text (i.Text to text) = true
is_on_text instr = makes_text instr || reads_text instr

-- those that leave all objects as they are: on numbers, truths, texts and references, copies, comparisons, looks, jumps and ticks
abbrev pub is_still : Instr → Bool
is_still (i.Copy to a) = true
is_still (i.Cmp to choice a b) = true
is_still instr = is_number instr || (is_jump instr || (is_reference instr || (is_look instr || is_on_text instr)))

-- those that make an object, change one or take one apart
abbrev pub is_busy : Instr → Bool
is_busy (i.Make to kind args) = true
is_busy (i.Open to a) = true
is_busy instr = is_change instr

abbrev pub is_within : Instr → Bool
is_within instr = is_still instr || is_busy instr

-- each register that such an instruction writes is there
abbrev pub HasRoomFor : Instr → ℕ → Type 0
HasRoomFor (i.Make to kind args) count = to < count
HasRoomFor (i.Open to a) count = AreBelow to count
HasRoomFor instr count = HasRegister (register_of instr) count × HasRegister (written_by instr) count

-- what is taken apart is the root of no isolate
abbrev pub FitsOpened : HeapState → List (Option Cell) → Instr → Type 0
FitsOpened heap cells (i.Open to a) = (p : Place) → place_in (held cells a) ≡ Some p → IsRoot heap p → ⊥
FitsOpened heap cells _ = Unit {0}

-- somewhere, in a function of this code with this body, a rule gives the step
pub record HasRuleWithin (code : Parts) (body : List Instr) (heap : HeapState) (cells : List (Option Cell)) (place left : ℕ) (instr : Instr) : Type 0 where
  pub rule : HasRule heap cells place left instr
  pub of_code : rule.scene.code ≡ code
  pub is_body : IsBody rule.scene.code rule.scene.function body

-- whatever is around a function of this code with this body, and whatever names and state it stands for, the step is the one that a rule gives
abbrev pub ObeysWithin : Parts → List Instr → Instr → HeapState → List (Option Cell) → ℕ → ℕ → Stop → HeapState → List (Option Cell) → ℕ → ℕ → Type 0
ObeysWithin code body instr heap cells place left told new_heap new_cells new_place new_left =
    (s : Scene) (v : View) → s.code ≡ code → IsBody s.code s.function body → Runs v heap cells left → IsRight (next_of s v place cells instr)
    → Stepped s v place cells told (next_of s v place cells instr) new_heap new_cells new_place new_left

-- the same, where `low` has the lender's floors
abbrev pub ObeysWithinLent : (ℕ → Bool) → (ℕ → ℕ) → Parts → List Instr → Instr → HeapState → List (Option Cell) → ℕ → ℕ → Stop → HeapState → List (Option Cell) → ℕ → ℕ → Type 0
ObeysWithinLent out floors code body instr heap cells place left told new_heap new_cells new_place new_left =
    (s : Scene) (v : View) → LowIsFloor v.low out floors → s.code ≡ code → IsBody s.code s.function body → Runs v heap cells left → IsRight (next_of s v place cells instr)
    → Stepped s v place cells told (next_of s v place cells instr) new_heap new_cells new_place new_left
