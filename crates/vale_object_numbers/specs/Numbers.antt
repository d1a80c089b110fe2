-- Which instructions on numbers and truths go on within their function, and which jump or spend a tick, over registers that may
-- lead to objects.
use Rattle.std.specs.Prelude.{ℕ, ℤ, List, Some, Result, Bool, true, false}
use Rattle.vale_base.specs.declared.spot.Spot.{Spot}
use Rattle.vale_base.specs.declared.trap.TrapKind.{TrapKind}
use Rattle.vale_code.specs.Instructions.{answered, jump}
use Rattle.vale_code.specs.declared.instr.Instr.{Instr}
use Rattle.vale_code.specs.declared.instr.Instr.TheVariants as i
use Rattle.vale_text.specs.Steps.{gives_int}
use Rattle.vale_heap.specs.HeapState.{HeapState}
use Rattle.vale_turn.specs.View.{IsBody, IsRight}
use Rattle.vale_turn.specs.declared.stop.Stop.{Stop}
use Rattle.vale_object_cells.specs.Cells.{cells_in}
use Rattle.vale_object_cells.specs.Names.{values_in}
use Rattle.vale_object_cells.specs.declared.register.Register.{Register}
use Rattle.vale_object_steps.specs.Views.{View}
use Rattle.vale_object_turn.specs.Steps.{HasRule, Obeys, Runs, Scene, Stepped, active, next_of}

abbrev pub is_number : Instr → Bool
is_number (i.Int to n) = true
is_number (i.Truth to choice) = true
is_number (i.Add to a b at) = true
is_number (i.Sub to a b at) = true
is_number (i.Mul to a b at) = true
is_number (i.Div to a b at) = true
is_number (i.Rem to a b at) = true
is_number (i.Not to a) = true
is_number _ = false

-- somewhere a rule gives the step, whatever the texts are
pub record HasRuleIn (registers : List Register) (place left : ℕ) (instr : Instr) : Type 0 where
  pub text : ℕ → List ℕ
  pub heap : HeapState
  pub rule : HasRule heap (cells_in text registers) place left instr

-- whatever the texts and the heap are, the step is the one that a rule gives
abbrev pub ObeysAll : Instr → List Register → ℕ → ℕ → Stop → List Register → ℕ → ℕ → Type 0
ObeysAll instr old place left told new new_place new_left = (t : ℕ → List ℕ) (heap : HeapState) → Obeys instr heap (cells_in t old) place left told heap (cells_in t new) new_place new_left

-- what an operation on numbers comes to goes to a register, or is a trap
abbrev pub Lands : ℕ → Spot → Result ℤ TrapKind → List Register → ℕ → Stop → List Register → ℕ → Type 0
Lands to at outcome old place told new new_place =
    (t : ℕ → List ℕ) (heap : HeapState) (left : ℕ) (s : Scene) (v : View) → Runs v heap (cells_in t old) left
    → Stepped s v place (cells_in t old) told (answered (active s v place (cells_in t old)) (Some to) (values_in v.names (cells_in t old)) at s.below v.state (gives_int v.state outcome)) heap (cells_in t new) new_place left

-- ---- jumps and ticks

abbrev pub is_jump : Instr → Bool
is_jump (i.Jump target) = true
is_jump (i.Unless a target) = true
is_jump i.Tick = true
is_jump _ = false

-- the same in a function with this body
pub record HasRuleOf (body : List Instr) (registers : List Register) (place left : ℕ) (instr : Instr) : Type 0 where
  pub text : ℕ → List ℕ
  pub heap : HeapState
  pub rule : HasRule heap (cells_in text registers) place left instr
  pub is_body : IsBody rule.scene.code rule.scene.function body

-- whatever the texts and the heap are, in a function with this body
abbrev pub ObeysOf : List Instr → Instr → List Register → ℕ → ℕ → Stop → ℕ → ℕ → Type 0
ObeysOf body instr registers place left told new_place new_left =
    (t : ℕ → List ℕ) (heap : HeapState) (s : Scene) (v : View) → IsBody s.code s.function body → Runs v heap (cells_in t registers) left → IsRight (next_of s v place (cells_in t registers) instr)
    → Stepped s v place (cells_in t registers) told (next_of s v place (cells_in t registers) instr) heap (cells_in t registers) new_place new_left

-- a jump comes to what it leads to
abbrev pub Leaps : List Instr → List Register → ℕ → ℕ → ℕ → Stop → ℕ → ℕ → Type 0
Leaps body registers target place left told new_place new_left =
    (t : ℕ → List ℕ) (heap : HeapState) (s : Scene) (v : View) → IsBody s.code s.function body → Runs v heap (cells_in t registers) left
    → Stepped s v place (cells_in t registers) told (jump s.code (active s v place (cells_in t registers)) target s.below v.state) heap (cells_in t registers) new_place new_left
