-- Which instructions on objects go on within their function, with no tick, and which registers they write.
use Rattle.std.specs.Prelude.{ℕ, Option, Some, None, Bool, true, false}
use Rattle.vale_code.specs.declared.instr.Instr.{Instr}
use Rattle.vale_code.specs.declared.instr.Instr.TheVariants as i

-- those that let an owner or a reference go from register to register
abbrev pub is_reference : Instr → Bool
is_reference (i.Move to a) = true
is_reference (i.Borrow to a) = true
is_reference (i.Frozen to a) = true
is_reference (i.Upcast to a kind) = true
is_reference _ = false

-- those that look at an object
abbrev pub is_look : Instr → Bool
is_look (i.LoadOwn to a field) = true
is_look (i.Load to a field at) = true
is_look (i.LoadLive to a field) = true
is_look (i.ElemOwn to a x at) = true
is_look (i.Elem to a x at) = true
is_look (i.ElemLive to a x at) = true
is_look (i.Len to a at) = true
is_look (i.LenLive to a) = true
is_look _ = false

-- those that change an object
abbrev pub is_change : Instr → Bool
is_change (i.SwapOwn to a field b) = true
is_change (i.Swap to a field b at) = true
is_change (i.SwapElOwn to a x b at) = true
is_change (i.SwapEl to a x b at) = true
is_change (i.Push a b at) = true
is_change (i.Pop to a at) = true
is_change _ = false

-- the register that such an instruction writes
abbrev pub written_by : Instr → Option ℕ
written_by (i.Move to a) = Some to
written_by (i.Borrow to a) = Some to
written_by (i.Frozen to a) = Some to
written_by (i.LoadOwn to a field) = Some to
written_by (i.Load to a field at) = Some to
written_by (i.LoadLive to a field) = Some to
written_by (i.ElemOwn to a x at) = Some to
written_by (i.Elem to a x at) = Some to
written_by (i.ElemLive to a x at) = Some to
written_by (i.Len to a at) = Some to
written_by (i.LenLive to a) = Some to
written_by (i.SwapOwn to a field b) = Some to
written_by (i.Swap to a field b at) = Some to
written_by (i.SwapElOwn to a x b at) = Some to
written_by (i.SwapEl to a x b at) = Some to
written_by (i.Pop to a at) = Some to
written_by (i.Upcast to a kind) = Some to
written_by _ = None
