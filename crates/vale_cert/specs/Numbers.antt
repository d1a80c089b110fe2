-- Which numbers an instruction may have: each lies inside its table. Of a place to jump to, and of a field of a struct that
-- only the registers tell, other rules speak.
use Rattle.std.specs.Prelude.{ℕ, List, length, Option, Some, None, Bool, true, false, ◌&&◌, ◌||◌, nat_lt, slice_get}
use Rattle.std.specs.List.{list_all}
use Rattle.vale_code.specs.Operands.{reads, writes}
use Rattle.vale_code.specs.Parts.{Parts}
use Rattle.vale_code.specs.declared.func.Func.{Func}
use Rattle.vale_code.specs.declared.instr.Instr.{Instr}
use Rattle.vale_code.specs.declared.instr.Instr.TheVariants as i
use Rattle.vale_code.specs.declared.kind.KindInfo.{KindInfo}
use Rattle.vale_code.specs.declared.kind.KindInfo.TheVariants as k
use Rattle.vale_code.specs.declared.kind.MethodInfo.{MethodInfo}
use Rattle.vale_cert.specs.Types.{is_kind, is_void}

abbrev pub is_text : Parts → ℕ → Bool
is_text code n = nat_lt n (length code.texts)

abbrev pub is_function : Parts → ℕ → Bool
is_function code n = nat_lt n (length code.funcs)

-- ---- methods

-- a method of an interface
abbrev pub method_from : Option KindInfo → ℕ → Option MethodInfo
method_from (Some (k.Interface name methods)) n = slice_get methods n
method_from _ n = None

-- a kind with its method; what is no interface has none
abbrev pub has_method : Option KindInfo → ℕ → Bool
has_method None n = false
has_method (Some (k.Interface name methods)) n = nat_lt n (length methods)
has_method (Some (k.Struct name destructor fields)) n = true
has_method (Some (k.Array item)) n = true

-- ---- calls of which nothing comes back: the register of their result isn't looked at

abbrev pub is_void_function : Option Func → Bool
is_void_function None = false
is_void_function (Some func) = is_void func.result

abbrev pub is_void_method : Option MethodInfo → Bool
is_void_method None = false
is_void_method (Some m) = is_void m.result

module _ (code : Parts) where
  abbrev pub is_void_call : Instr → Bool
  is_void_call (i.Call to func args at) = is_void_function (slice_get code.funcs func)
  is_void_call (i.CallM to interface method object args at) = is_void_method (method_from (slice_get code.kinds interface) method)
  is_void_call (i.CallMLive to interface method object args at) = is_void_method (method_from (slice_get code.kinds interface) method)
  is_void_call (i.ParRange to first end func args at) = is_void_function (slice_get code.funcs func)
  is_void_call (i.ParEach to array func args at) = is_void_function (slice_get code.funcs func)
  is_void_call _ = false

  -- what is no register lies inside its table
  abbrev pub in_tables : Instr → Bool
  in_tables (i.Truth to choice) = nat_lt choice 2
  in_tables (i.Text to text) = is_text code text
  in_tables (i.Cmp to choice left right) = nat_lt choice 6
  in_tables (i.Print from choice) = nat_lt choice 2
  in_tables (i.Call to func args at) = is_function code func
  in_tables (i.CallM to interface method object args at) = has_method (slice_get code.kinds interface) method
  in_tables (i.CallMLive to interface method object args at) = has_method (slice_get code.kinds interface) method
  in_tables (i.Make to kind args) = is_kind code kind
  in_tables (i.ParRange to first end func args at) = is_function code func
  in_tables (i.ParEach to array func args at) = is_function code func
  in_tables (i.Upcast to from kind) = is_kind code kind
  in_tables _ = true

-- ---- registers

-- of a function with so many
abbrev pub are_registers : ℕ → List ℕ → Bool
are_registers registers rs = list_all (λ r. nat_lt r registers) rs

abbrev pub numbers : Parts → ℕ → Instr → Bool
numbers code registers instr = are_registers registers (reads instr) && (is_void_call code instr || are_registers registers (writes instr)) && in_tables code instr
