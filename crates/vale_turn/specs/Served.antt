-- Which instructions a machine runs, which of them within a function's cells, and which registers they write.
use Rattle.std.specs.Prelude.{◌≡◌, ℕ, Option, Some, None, Bool, true, false}
use Rattle.vale_code.specs.Instructions.{fetch}
use Rattle.vale_code.specs.Parts.{Parts}
use Rattle.vale_code.specs.declared.instr.Instr.{Instr}
use Rattle.vale_code.specs.declared.instr.Instr.TheVariants as i
use Rattle.vale_registers.specs.Cells.{HasRegister}

-- the instructions that the machine runs: those on numbers, truths and texts, jumps, ticks and calls
abbrev pub is_served : Instr → Bool
is_served (i.Int to n) = true
is_served (i.Truth to choice) = true
is_served (i.Text to text) = true
is_served (i.Copy to a) = true
is_served (i.Add to a b at) = true
is_served (i.Sub to a b at) = true
is_served (i.Mul to a b at) = true
is_served (i.Div to a b at) = true
is_served (i.Rem to a b at) = true
is_served (i.Cmp to choice a b) = true
is_served (i.Not to a) = true
is_served (i.Join to a b at) = true
is_served (i.TextLen to a) = true
is_served (i.Slice to a x y at) = true
is_served (i.Byte to a x at) = true
is_served (i.TextOf to a) = true
is_served (i.IsNum to a) = true
is_served (i.Num to a at) = true
is_served (i.Print a choice) = true
is_served (i.Jump target) = true
is_served (i.Unless a target) = true
is_served i.Tick = true
is_served (i.Call to func args at) = true
is_served (i.Ret a) = true
is_served i.RetVoid = true
is_served _ = false

-- the register that an instruction writes, or whose value it takes away
abbrev pub register_of : Instr → Option ℕ
register_of (i.Int to n) = Some to
register_of (i.Truth to choice) = Some to
register_of (i.Text to text) = Some to
register_of (i.Copy to a) = Some to
register_of (i.Add to a b at) = Some to
register_of (i.Sub to a b at) = Some to
register_of (i.Mul to a b at) = Some to
register_of (i.Div to a b at) = Some to
register_of (i.Rem to a b at) = Some to
register_of (i.Cmp to choice a b) = Some to
register_of (i.Not to a) = Some to
register_of (i.Join to a b at) = Some to
register_of (i.TextLen to a) = Some to
register_of (i.Slice to a x y at) = Some to
register_of (i.Byte to a x at) = Some to
register_of (i.TextOf to a) = Some to
register_of (i.IsNum to a) = Some to
register_of (i.Num to a at) = Some to
register_of (i.Ret a) = Some a
register_of _ = None

abbrev pub is_call : Instr → Bool
is_call (i.Call to func args at) = true
is_call _ = false

-- those that may be on texts, and print: they are done aside from the function's cells
abbrev pub is_aside : Instr → Bool
is_aside (i.Text to text) = true
is_aside (i.Copy to a) = true
is_aside (i.Cmp to choice a b) = true
is_aside (i.Join to a b at) = true
is_aside (i.TextLen to a) = true
is_aside (i.Slice to a x y at) = true
is_aside (i.Byte to a x at) = true
is_aside (i.TextOf to a) = true
is_aside (i.IsNum to a) = true
is_aside (i.Num to a at) = true
is_aside (i.Print a choice) = true
is_aside _ = false

-- the instructions that may want memory: those that make or copy texts, print, or enter a function
abbrev pub may_want : Instr → Bool
may_want (i.Text to text) = true
may_want (i.Copy to a) = true
may_want (i.Join to a b at) = true
may_want (i.Slice to a x y at) = true
may_want (i.TextOf to a) = true
may_want (i.Print a choice) = true
may_want (i.Call to func args at) = true
may_want _ = false

abbrev pub may_want_at : Option Instr → Bool
may_want_at None = false
may_want_at (Some instr) = may_want instr

-- an instruction of a function with so many registers
pub record IsFit (instr : Instr) (count : ℕ) : Type 0 where
  pub served : is_served instr ≡ true
  pub room : HasRegister (register_of instr) count

-- each instruction of a function
pub record AreFit (code : Parts) (function count : ℕ) : Type 0 where
  pub fit : (place : ℕ) (instr : Instr) → fetch code function place ≡ Some instr → IsFit instr count
