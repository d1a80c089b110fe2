-- How the machine enters and leaves functions.
use Rattle.std.specs.Prelude.{◌≡◌, ℕ, ◌<◌, ◌≤◌, List, length, Option, Some, slice_get}
use Rattle.vale_base.specs.declared.piece.Piece.{Piece}
use Rattle.vale_base.specs.declared.spot.Spot.{Spot}
use Rattle.vale_state_spec.specs.World.{Value}
use Rattle.vale_code.specs.Act as a
use Rattle.vale_code.specs.Frames.{Next, leave}
use Rattle.vale_code.specs.Kinds.{result_to}
use Rattle.vale_code.specs.Parts.{Parts}
use Rattle.vale_code.specs.Registers.{Registers, Read, give_all}
use Rattle.vale_code.specs.Run.{last_state}
use Rattle.vale_code.specs.declared.func.Func.{Func}
use Rattle.vale_registers.specs.Cells.{HasRegister}
use Rattle.vale_registers.specs.Texts.{text_at}
use Rattle.vale_machine.specs.View.{active, below, state_of}
use Rattle.vale_machine.specs.declared.machine.Frame.{Frame}
use Rattle.vale_machine.specs.declared.machine.Machine.{Machine}

-- a plain function, whose registers have room for its parameters, and whose value has a register
pub record IsCallable (code : Parts) (function to count : ℕ) : Type 0 where
  pub func : Func
  pub found : slice_get code.funcs function ≡ Some func
  pub plain : func.form ≡ 0
  pub params : length func.params ≤ func.registers
  pub room : HasRegister (result_to func.result to) count

-- a function is given values of these registers
pub record HasGiven (code : Parts) (function : ℕ) (args : List ℕ) (registers : Registers) : Type 0 where
  pub func : Func
  pub found : slice_get code.funcs function ≡ Some func
  pub read : Read
  pub is : give_all func.params args registers ≡ Some read

-- the registers of the innermost frame are no frame's, and this frame is the innermost
pub record IsUncovered (frame : Frame) (old new : Machine) : Type 0 where
  pub top : new.top ≡ frame
  pub cells : new.cells ≡ old.cells
  pub end : new.end ≡ old.top.base
  pub texts : (i : ℕ) → i < old.top.base → text_at new.texts i ≡ text_at old.texts i
  pub below : new.below ≡ old.below
  pub left : new.left ≡ old.left
  pub given : new.given ≡ old.given
  pub pieces : new.pieces ≡ old.pieces

-- what a call leads to
abbrev pub call_next : Parts → List Piece → Machine → ℕ → ℕ → List ℕ → Spot → Next
call_next code taken m to g args at = a.call code (last_state code) (active code m) (below code m) (state_of taken m) to g args at

-- what leaving the innermost function with a value leads to
abbrev pub leave_next : Parts → List Piece → Machine → Option Value → Next
leave_next code taken m v = leave (below code m) m.top.dest v (state_of taken m)
