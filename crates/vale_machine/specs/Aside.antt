-- What an instruction does that is done aside from the cells: the frames stay, and only a register and the place are others.
use Rattle.std.specs.Prelude.{◌≡◌, ◌+◌, ℕ, List, false, length, pos, slice_set}
use Rattle.vale_base.specs.declared.piece.Piece.{Piece}
use Rattle.vale_code.specs.Act.{act}
use Rattle.vale_code.specs.Frames.{Next}
use Rattle.vale_code.specs.Parts.{Parts}
use Rattle.vale_code.specs.Registers.{Registers}
use Rattle.vale_code.specs.Run.{last_state}
use Rattle.vale_code.specs.declared.instr.Instr.{Instr}
use Rattle.vale_registers.specs.declared.cell.Cell.{Cell}
use Rattle.vale_registers.specs.declared.cell.Shape.TheVariants as shape
use Rattle.vale_turn.specs.View.{IsRight}
use Rattle.vale_machine.specs.View.{KeepsPieces, KeepsTicks, active, below, registers_of, state_of}
use Rattle.vale_machine.specs.declared.machine.Machine.{Machine}
use Rattle.vale_machine.specs.declared.machine.Step.{Step}

-- a cell went to a register of the innermost function, which goes on at its next instruction
pub record Receives (to : ℕ) (cell : Cell) (old new : Machine) : Type 0 where
  pub cells : new.cells.items ≡ slice_set old.cells.items (old.top.base + to) cell
  pub end : new.end ≡ old.end
  pub top : new.top ≡ record old.top { place = old.top.place + 1 }
  pub texts : new.texts ≡ old.texts
  pub below : new.below ≡ old.below
  pub left : new.left ≡ old.left
  pub given : new.given ≡ old.given
  pub pieces : new.pieces ≡ old.pieces

abbrev pub text_cell : Cell
text_cell = record { shape = shape.Text; truth = false; number = pos 0 }

-- the innermost function goes on at its next instruction with these registers
pub record Gets (wanted : Registers) (old new : Machine) : Type 0 where
  pub top : new.top ≡ record old.top { place = old.top.place + 1 }
  pub registers : registers_of new ≡ wanted
  pub below : (code : Parts) → below code new ≡ below code old
  pub frames : new.below ≡ old.below
  pub end : new.end ≡ old.end
  pub cells : length new.cells.items ≡ length old.cells.items
  pub left : new.left ≡ old.left
  pub given : new.given ≡ old.given
  pub pieces : new.pieces ≡ old.pieces

-- frames lie as before
pub record KeepsFrames (told : Step) (old new : Machine) : Type 0 where
  pub top : new.top ≡ record old.top { place = new.top.place }
  pub below : new.below ≡ old.below
  pub end : new.end ≡ old.end
  pub cells : length new.cells.items ≡ length old.cells.items
  pub ticks : KeepsTicks old new
  pub kept : KeepsPieces told old new

-- what an instruction leads to
abbrev pub next_in : Parts → List Piece → Machine → Instr → Next
next_in code taken m instr = act code (last_state code) (active code m) (below code m) (state_of taken m) instr

-- somewhere the instruction has a rule
pub record HasRuleIn (code : Parts) (m : Machine) (instr : Instr) : Type 0 where
  pub taken : List Piece
  pub right : IsRight (next_in code taken m instr)
