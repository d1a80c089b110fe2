-- The registers that an instruction names: those that it reads, in the order of its form, and those that it writes after them.
-- The register of a void result stands there, but isn't written.
use Rattle.std.specs.Prelude.{ℕ, ◌+◌, List, [], ◌∷◌, max}
use Rattle.vale_code.specs.declared.instr.Instr.{Instr}
use Rattle.vale_code.specs.declared.instr.Instr.TheVariants as i
use Rattle.vale_code.specs.declared.operands.Registers.{Registers}
use Rattle.vale_code.specs.declared.operands.Registers.TheVariants as r

-- how contracts see what the code lists
abbrev pub listed : Registers → List ℕ
listed r.Nothing = []
listed (r.One a) = a ∷ []
listed (r.Two a b) = a ∷ b ∷ []
listed (r.Three a b c) = a ∷ b ∷ c ∷ []
listed (r.These rs) = rs.now
listed (r.OneAnd a rs) = a ∷ rs.now
listed (r.TwoAnd a b rs) = a ∷ b ∷ rs.now

-- ---- reading

-- of the instructions on objects
abbrev pub object_reads : Instr → List ℕ
object_reads (i.Make to kind args) = args
object_reads (i.Borrow to a) = a ∷ []
object_reads (i.Frozen to a) = a ∷ []
object_reads (i.LoadOwn to a field) = a ∷ []
object_reads (i.Load to a field at) = a ∷ []
object_reads (i.LoadLive to a field) = a ∷ []
object_reads (i.ElemOwn to a x at) = a ∷ x ∷ []
object_reads (i.Elem to a x at) = a ∷ x ∷ []
object_reads (i.ElemLive to a x at) = a ∷ x ∷ []
object_reads (i.Len to a at) = a ∷ []
object_reads (i.LenLive to a) = a ∷ []
object_reads (i.SwapOwn to a field v) = a ∷ v ∷ []
object_reads (i.Swap to a field v at) = a ∷ v ∷ []
object_reads (i.SwapElOwn to a x v at) = a ∷ x ∷ v ∷ []
object_reads (i.SwapEl to a x v at) = a ∷ x ∷ v ∷ []
object_reads (i.Push a v at) = a ∷ v ∷ []
object_reads (i.Pop to a at) = a ∷ []
object_reads (i.Open to a) = a ∷ []
object_reads (i.Destroy a at) = a ∷ []
object_reads (i.Merge to a) = a ∷ []
object_reads (i.ThawMerge to a) = a ∷ []
object_reads (i.ThawKeep to a) = a ∷ []
object_reads (i.ParRange to x y f args at) = x ∷ y ∷ args
object_reads (i.ParEach to a f args at) = a ∷ args
object_reads (i.Upcast to a kind) = a ∷ []
object_reads _ = []

abbrev pub reads : Instr → List ℕ
reads (i.Copy to a) = a ∷ []
reads (i.Move to a) = a ∷ []
reads (i.Add to a b at) = a ∷ b ∷ []
reads (i.Sub to a b at) = a ∷ b ∷ []
reads (i.Mul to a b at) = a ∷ b ∷ []
reads (i.Div to a b at) = a ∷ b ∷ []
reads (i.Rem to a b at) = a ∷ b ∷ []
reads (i.Cmp to choice a b) = a ∷ b ∷ []
reads (i.Not to a) = a ∷ []
reads (i.Join to a b at) = a ∷ b ∷ []
reads (i.TextLen to a) = a ∷ []
reads (i.Slice to a x y at) = a ∷ x ∷ y ∷ []
reads (i.Byte to a x at) = a ∷ x ∷ []
reads (i.TextOf to a) = a ∷ []
reads (i.IsNum to a) = a ∷ []
reads (i.Num to a at) = a ∷ []
reads (i.Print a choice) = a ∷ []
reads (i.Unless a target) = a ∷ []
reads (i.Call to f args at) = args
reads (i.CallM to interface method a args at) = a ∷ args
reads (i.CallMLive to interface method a args at) = a ∷ args
reads (i.Ret a) = a ∷ []
reads instr = object_reads instr

-- ---- writing

abbrev pub writes : Instr → List ℕ
writes (i.Int to n) = to ∷ []
writes (i.Truth to choice) = to ∷ []
writes (i.Text to text) = to ∷ []
writes (i.Copy to a) = to ∷ []
writes (i.Move to a) = to ∷ []
writes (i.Add to a b at) = to ∷ []
writes (i.Sub to a b at) = to ∷ []
writes (i.Mul to a b at) = to ∷ []
writes (i.Div to a b at) = to ∷ []
writes (i.Rem to a b at) = to ∷ []
writes (i.Cmp to choice a b) = to ∷ []
writes (i.Not to a) = to ∷ []
writes (i.Join to a b at) = to ∷ []
writes (i.TextLen to a) = to ∷ []
writes (i.Slice to a x y at) = to ∷ []
writes (i.Byte to a x at) = to ∷ []
writes (i.TextOf to a) = to ∷ []
writes (i.IsNum to a) = to ∷ []
writes (i.Num to a at) = to ∷ []
writes (i.Call to f args at) = to ∷ []
writes (i.CallM to interface method a args at) = to ∷ []
writes (i.CallMLive to interface method a args at) = to ∷ []
writes (i.Make to kind args) = to ∷ []
writes (i.Borrow to a) = to ∷ []
writes (i.Frozen to a) = to ∷ []
writes (i.LoadOwn to a field) = to ∷ []
writes (i.Load to a field at) = to ∷ []
writes (i.LoadLive to a field) = to ∷ []
writes (i.ElemOwn to a x at) = to ∷ []
writes (i.Elem to a x at) = to ∷ []
writes (i.ElemLive to a x at) = to ∷ []
writes (i.Len to a at) = to ∷ []
writes (i.LenLive to a) = to ∷ []
writes (i.SwapOwn to a field v) = to ∷ []
writes (i.Swap to a field v at) = to ∷ []
writes (i.SwapElOwn to a x v at) = to ∷ []
writes (i.SwapEl to a x v at) = to ∷ []
writes (i.Pop to a at) = to ∷ []
writes (i.Open to a) = to
writes (i.Merge to a) = to ∷ []
writes (i.ThawMerge to a) = to ∷ []
writes (i.ThawKeep to a) = to ∷ []
writes (i.ParRange to x y f args at) = to ∷ []
writes (i.ParEach to a f args at) = to ∷ []
writes (i.Upcast to a kind) = to ∷ []
writes _ = []

-- ---- room

-- more than each of these registers
abbrev pub room_of : List ℕ → ℕ
room_of [] = 0
room_of (r ∷ rs) = max (r + 1) (room_of rs)

-- more than each register that the instruction names
abbrev pub room_for : Instr → ℕ
room_for instr = max (room_of (writes instr)) (room_of (reads instr))
