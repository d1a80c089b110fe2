-- Which instructions ask whether the object that they work on is alive, and which take that for known.
use Rattle.std.specs.Prelude.{◌≡◌, ℕ, ◌+◌, Bool, true, false, List, [], ◌∷◌, Some, if◌then◌else◌, slice_get}
use Rattle.std.specs.List.{list_any}
use Rattle.vale_rules_spec.specs.Typed.{Typed}
use Rattle.vale_code.specs.Parts.{Parts as Code}
use Rattle.vale_code.specs.declared.func.Func.{Func}
use Rattle.vale_code.specs.declared.instr.Instr.{Instr}
use Rattle.vale_code.specs.declared.instr.Instr.TheVariants as i
use Rattle.vale_lowering_objects.specs.Code.{lowered}

-- it asks
abbrev pub is_checked : Instr → Bool
is_checked (i.CallM to interface method a args at) = true
is_checked (i.Load to a field at) = true
is_checked (i.Elem to a x at) = true
is_checked (i.Len to a at) = true
is_checked (i.Swap to a field b at) = true
is_checked (i.SwapEl to a x b at) = true
is_checked (i.Push a b at) = true
is_checked (i.Pop to a at) = true
is_checked _ = false

-- it would have to ask, and doesn't
abbrev pub is_elided : Instr → Bool
is_elided (i.CallMLive to interface method a args at) = true
is_elided (i.LoadLive to a field) = true
is_elided (i.ElemLive to a x at) = true
is_elided (i.LenLive to a) = true
is_elided _ = false

abbrev pub checked_in : List Instr → ℕ
checked_in [] = 0
checked_in (x ∷ xs) = (if is_checked x then 1 else 0) + checked_in xs

abbrev pub checked_of : List Func → ℕ
checked_of [] = 0
checked_of (f ∷ fs) = checked_in f.body + checked_of fs

-- how many instructions of a code ask
abbrev pub checked : Code → ℕ
checked code = checked_of code.funcs

-- Lowered code asks wherever it has to.
abbrev pub NoneElided : Type 0
NoneElided = (program : Typed) (j : ℕ) (func : Func) → slice_get (lowered program).funcs j ≡ Some func → list_any is_elided func.body ≡ false
