-- What the machine relies on in a code. All of it holds of certified code.
use Rattle.std.specs.Prelude.{◌≡◌, ℕ, Some, slice_get}
use Rattle.vale_code.specs.Parts.{Parts}
use Rattle.vale_code.specs.declared.func.Func.{Func}
use Rattle.vale_code.specs.declared.instr.Instr.{Instr}
use Rattle.vale_code.specs.declared.instr.Instr.TheVariants as i
use Rattle.vale_turn.specs.Served.{IsFit}
use Rattle.vale_machine.specs.Calls.{IsCallable}

-- a function that is called may be called from a function with so many registers
abbrev pub CallsWell : Parts → Instr → ℕ → Type 0
CallsWell code (i.Call to func args at) count = IsCallable code func to count
CallsWell code _ count = Unit {0}

pub record IsRunnable (code : Parts) : Type 0 where
  pub fits : (function place : ℕ) (func : Func) (instr : Instr) → slice_get code.funcs function ≡ Some func → slice_get func.body place ≡ Some instr
      → IsFit instr func.registers
  pub calls : (function place : ℕ) (func : Func) (instr : Instr) → slice_get code.funcs function ≡ Some func → slice_get func.body place ≡ Some instr
      → CallsWell code instr func.registers
