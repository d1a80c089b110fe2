-- What each instruction asks of the marks of registers: the rules of certificates on types, on what is empty, on depths and on labels, as far as they speak of depths and of
-- what owns. c is the number of open freezes.
use Rattle.std.specs.Prelude.{◌≡◌, ◌⊎◌, ◌≤◌, ◌<◌, ℕ, suc, ℤ, List, [], ◌∷◌, Option, Some, None, Bool, true, false, slice_get}
use Rattle.vale_state_spec.specs.State.{State, name_of, object_of}
use Rattle.vale_state_spec.specs.World.{Value, Int, Own, Ref, Iso, Freeze, Object, Lives}
use Rattle.vale_code.specs.Act.{without_first}
use Rattle.vale_code.specs.Enter.{Form, Plain, Pure, Iteration, Destructor}
use Rattle.vale_code.specs.Frames.{Active, Frame, Running, Dropping, Looping, Alone}
use Rattle.vale_code.specs.Instructions.{fetch}
use Rattle.vale_code.specs.Parts.{Parts}
use Rattle.vale_code.specs.Registers.{Registers, read, put, put_all}
use Rattle.vale_code.specs.declared.func.Func.{Func}
use Rattle.vale_code.specs.declared.ty.Ty.{Ty}
use Rattle.vale_code.specs.declared.instr.Instr.{Instr}
use Rattle.vale_code.specs.declared.instr.Instr.TheVariants as i
use Rattle.vale_region_laws.specs.Configs.{MarkUnder, base_of, form_at, ConfigFits}
use Rattle.vale_region_laws.specs.Holding.{Marks, mark, put_mark, in_registers}
use Rattle.vale_region_laws.specs.Passing.{IsPlain, PassAll, CaptureAll, StoreAll}
use Rattle.vale_region_laws.specs.Regions.{Each, How, Held, Seen, Waits, Leaves, HoldsNoIso, IsNoIso, how_outside}

-- the marks outside of a freeze that ends
abbrev pub mark_outside : ℕ → Option How → Option How
mark_outside c None = None
mark_outside c (Some how) = Some (how_outside c how)

abbrev pub lower_marks : ℕ → Marks → Marks
lower_marks c [] = []
lower_marks c (m ∷ ms) = mark_outside c m ∷ lower_marks c ms

-- isolates, and values that lead nowhere
abbrev pub IsMoved : Value → Type 0
IsMoved (Own n) = ⊥
IsMoved (Ref n) = ⊥
IsMoved _ = Unit {0}

-- what gives `&imm` by itself
abbrev pub SeesOut : ℕ → How → Type 0
SeesOut c (Held b) = b < c
SeesOut c (Seen b) = b ≤ c
SeesOut c Waits = ⊥

pub record CallGiven (s : State) (pure : Bool) (tys : List Ty) (args : List ℕ) (ms : Marks) (regs : Registers) : Type 0 where
  pub hows : List How
  pub values : List Value
  pub marks : Marks
  pub after : Registers
  pub pass : PassAll s.regions pure tys args ms regs hows values marks after

module _ (code : Parts) (f : Active) (s : State) (ms : Marks) (form : Form) (out : ℕ) where
  -- the register holds this
  abbrev pub Has : ℕ → Value → Type 0
  Has a v = read f.registers a ≡ Some v

  -- at its own depth
  abbrev pub IsHere : ℕ → Type 0
  IsHere a = mark ms a ≡ Some (Held s.regions)

  abbrev pub IsStored : ℕ → Value → Type 0
  IsStored a v = IsHere a ⊎ IsPlain v

  abbrev pub IsSeen : ℕ → Type 0
  IsSeen a = (how : How) × (mark ms a ≡ Some how) × SeesOut s.regions how

  -- no isolate stands in what it leads to
  abbrev pub IsOpenCell : Value → Type 0
  IsOpenCell v = (n : ℕ) (o : Object) → name_of v ≡ Some n → Lives s.world n o → Each IsNoIso o.values

  -- a field or an element is read
  abbrev pub IsRead : ℕ → Value → Type 0
  IsRead a v = IsSeen a ⊎ (IsHere a × IsNoIso v × IsOpenCell v)

  abbrev pub CallAsks : Form → Func → List ℕ → Type 0
  CallAsks Plain func args = CallGiven s false func.params args ms f.registers
  CallAsks Pure func args = CallGiven s true func.params args ms f.registers
  CallAsks _ func args = Unit {0}

  -- a method's first parameter is the receiver
  abbrev pub MethodAsks : Form → Func → List ℕ → Type 0
  MethodAsks Plain func args = CallGiven s false (without_first func.params) args ms f.registers
  MethodAsks Pure func args = CallGiven s true (without_first func.params) args ms f.registers
  MethodAsks _ func args = Unit {0}

  -- an `&I` of this depth, or what gives `&imm` by itself
  abbrev pub Receives : ℕ → List ℕ → Type 0
  Receives a args = (v : Value) × Has a v × (IsSeen a ⊎ (IsHere a × IsNoIso v))
      × ((g : ℕ) (form : Form) (func : Func) → form_at code g ≡ Some form → slice_get code.funcs g ≡ Some func → MethodAsks form func args)

  -- at the end of a freeze: inside the function, nothing of the ended depth is left but isolates
  abbrev pub Thaws : ℕ → Marks → Registers → Type 0
  Thaws d ns regs = (s.regions ≡ suc d) × (base_of form out ≤ d) × Each (Leaves d) (in_registers ns regs []) × Each (MarkUnder d d) (lower_marks d ns)

  -- the region of an iteration that gives an owner is kept
  abbrev pub EndAsks : Form → Value → Type 0
  EndAsks Iteration (Own n) = HoldsNoIso s.world (Freeze s.regions)
  EndAsks _ _ = Unit {0}

  abbrev pub Asks : Instr → Type 0
  Asks (i.Copy to a) = (v : Value) × Has a v × (IsPlain v ⊎ (IsHere a ⊎ ((b : ℕ) × (mark ms a ≡ Some (Seen b)) × (b ≤ s.regions))))
  Asks (i.Move to a) = (v : Value) × Has a v × IsHere a
  Asks (i.Call to g args at) = (form : Form) (func : Func) → form_at code g ≡ Some form → slice_get code.funcs g ≡ Some func → CallAsks form func args
  Asks (i.CallM to interface method a args at) = Receives a args
  Asks (i.CallMLive to interface method a args at) = Receives a args
  Asks (i.Ret a) = (v : Value) × Has a v × (base_of form out ≡ s.regions) × ((IsStored a v × ((n : ℕ) → v ≡ Ref n → (form ≡ Plain) ⊎ (form ≡ Destructor)) × EndAsks form v)
      ⊎ ((b : ℕ) × (form ≡ Plain) × (mark ms a ≡ Some (Seen b)) × (b ≤ s.regions)))
  Asks i.RetVoid = base_of form out ≡ s.regions
  Asks (i.Make to kind args) = (vs : List Value) × (ns : Marks) × (after : Registers) × StoreAll s.regions args ms f.registers vs ns after
  Asks (i.Borrow to a) = (v : Value) × Has a v × IsHere a
  Asks (i.Frozen to a) = (v : Value) × Has a v × IsSeen a
  Asks (i.LoadOwn to a field) = (n : ℕ) × Has a (Own n) × IsHere a × IsOpenCell (Own n)
  Asks (i.Load to a field at) = (v : Value) × Has a v × IsRead a v
  Asks (i.LoadLive to a field) = (v : Value) × Has a v × IsSeen a
  Asks (i.ElemOwn to a x at) = (n : ℕ) × (u : Value) × Has a (Own n) × Has x u × IsHere a × IsOpenCell (Own n)
  Asks (i.Elem to a x at) = (v : Value) × (u : Value) × Has a v × Has x u × IsRead a v
  Asks (i.ElemLive to a x at) = (v : Value) × (u : Value) × Has a v × Has x u × IsSeen a
  Asks (i.SwapOwn to a field b) = (n : ℕ) × (new : Value) × Has a (Own n) × Has b new × IsHere a × IsStored b new
  Asks (i.Swap to a field b at) = (v : Value) × (new : Value) × Has a v × Has b new × IsHere a × IsNoIso v × IsStored b new
  Asks (i.SwapElOwn to a x b at) = (n : ℕ) × (u : Value) × (new : Value) × Has a (Own n) × Has x u × Has b new × IsHere a × IsStored b new
  Asks (i.SwapEl to a x b at) = (v : Value) × (u : Value) × (new : Value) × Has a v × Has x u × Has b new × IsHere a × IsNoIso v × IsStored b new
  Asks (i.Push a b at) = (v : Value) × (new : Value) × Has a v × Has b new × IsHere a × IsNoIso v × IsStored b new
  Asks (i.Pop to a at) = (v : Value) × Has a v × IsHere a × IsNoIso v
  Asks (i.Open to a) = (n : ℕ) × (o : Object) × (regs : Registers) × Has a (Own n) × IsHere a × (object_of n s ≡ Some o) × (put_all to o.values (put f.registers a None) ≡ Some regs)
  Asks (i.Destroy a at) = (v : Value) × Has a v × IsHere a
  Asks (i.Merge to a) = (n : ℕ) × Has a (Iso n) × IsHere a
  Asks (i.ThawMerge to a) = (n : ℕ) × (d : ℕ) × Has a (Own n) × IsHere a × Thaws d (put_mark ms a None) (put f.registers a None)
  Asks (i.ThawKeep to a) = (n : ℕ) × (d : ℕ) × Has a (Own n) × IsHere a × Thaws d (put_mark ms a None) (put f.registers a None) × HoldsNoIso s.world (Freeze (suc d))
  Asks i.ThawClear = (d : ℕ) × Thaws d ms f.registers
  Asks (i.ParRange to a b g args at) = (y : ℤ) × (z : ℤ) × Has a (Int y) × Has b (Int z)
      × ((func : Func) → slice_get code.funcs g ≡ Some func → (vs : List Value) × CaptureAll s.regions ms f.registers (without_first func.params) args vs)
  Asks (i.ParEach to a g args at) = (n : ℕ) × (o : Object) × Has a (Own n) × IsHere a × (object_of n s ≡ Some o) × Each IsMoved o.values
      × ((func : Func) → slice_get code.funcs g ≡ Some func → (vs : List Value) × CaptureAll s.regions (put_mark ms a None) (put f.registers a None) (without_first func.params) args vs)
  Asks (i.Upcast to a kind) = (v : Value) × Has a v × (IsHere a ⊎ ((b : ℕ) × (mark ms a ≡ Some (Seen b)) × (b ≤ s.regions)))
  Asks instr = Unit {0}

  abbrev pub AsksIf : Option Instr → Type 0
  AsksIf None = Unit {0}
  AsksIf (Some instr) = Asks instr

-- what a step asks of a configuration that fits: that of the instruction where a function goes on, else nothing
abbrev pub AsksOf : (code : Parts) (top : Frame) (below : List Frame) (s : State) → ConfigFits code (record { top = top; below = below; state = s }) → Type 0
AsksOf code (Running f) below s x = AsksIf code f s x.top.marks x.stack.1 x.stack.2 (fetch code f.function f.place)
AsksOf code (Dropping f) below s x = Unit {0}
AsksOf code (Looping f) below s x = Unit {0}
AsksOf code (Alone v) below s x = Unit {0}

-- Fewer marks: a certificate may call a register empty at any time, as it does with references of a depth that ends.
abbrev pub IsWeaker : Marks → Marks → Type 0
IsWeaker [] ms = Unit {0}
IsWeaker (None ∷ ns) [] = IsWeaker ns []
IsWeaker (Some h ∷ ns) [] = ⊥
IsWeaker (None ∷ ns) (m ∷ ms) = IsWeaker ns ms
IsWeaker (Some h ∷ ns) (m ∷ ms) = (m ≡ Some h) × IsWeaker ns ms
