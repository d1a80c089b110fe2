-- How arguments are given, as certificates ask for them.
use Rattle.std.specs.Prelude.{◌≡◌, ◌⊎◌, ◌≤◌, ◌<◌, ℕ, suc, List, [], ◌∷◌, Option, Some, Bool, true, false}
use Rattle.vale_state_spec.specs.State.{name_of}
use Rattle.vale_state_spec.specs.World.{Value, Own, Ref, Iso}
use Rattle.vale_code.specs.Registers.{Registers, read, kept, after_giving}
use Rattle.vale_code.specs.declared.ty.Ty.{Ty}
use Rattle.vale_code.specs.declared.ty.Ty.TheVariants as t
use Rattle.vale_base.specs.declared.name.Kind.{Kind}
use Rattle.vale_region_laws.specs.Holding.{Marks, mark, taken}
use Rattle.vale_region_laws.specs.Regions.{How, Held, Seen, Waits}

-- it leads nowhere
abbrev pub IsPlain : Value → Type 0
IsPlain (Own n) = ⊥
IsPlain (Ref n) = ⊥
IsPlain (Iso n) = ⊥
IsPlain _ = Unit {0}

abbrev pub IsFrozen : Ty → Bool
IsFrozen (t.Frozen k) = true
IsFrozen _ = false

-- At depth c, for a pure function or another: a value of a register with this mark is given for a parameter of this type, and
-- this value comes, held so until the function is entered.
pub data PassOne (c : ℕ) : Bool → Ty → Option How → Value → How → Value → Type 0 where
  -- what gives `&imm` by itself: an owner, an isolate or an `&X` from further out, and an `&imm`
  owner_out : (pure : Bool) (k : Kind) (b n : ℕ) → b < c → PassOne c pure (t.Frozen k) (Some (Held b)) (Own n) (Seen c) (Ref n)
  isolate_out : (pure : Bool) (k : Kind) (b n : ℕ) → b < c → PassOne c pure (t.Frozen k) (Some (Held b)) (Iso n) (Seen c) (Ref n)
  reference_out : (pure : Bool) (k : Kind) (b n : ℕ) → b < c → PassOne c pure (t.Frozen k) (Some (Held b)) (Ref n) (Seen c) (Ref n)
  seen : (pure : Bool) (k : Kind) (b n : ℕ) → b ≤ c → PassOne c pure (t.Frozen k) (Some (Seen b)) (Ref n) (Seen c) (Ref n)
  -- a pure function sees an `&X` of this depth
  reference : (k : Kind) (n : ℕ) → PassOne c true (t.Frozen k) (Some (Held c)) (Ref n) (Held c) (Ref n)
  -- other parameters
  here : (ty : Ty) (v : Value) → IsFrozen ty ≡ false → PassOne c false ty (Some (Held c)) v (Held c) v
  plain : (ty : Ty) (m : Option How) (v : Value) → IsFrozen ty ≡ false → IsPlain v → PassOne c false ty m v (Held c) v
  plain_in : (ty : Ty) (m : Option How) (v : Value) → IsFrozen ty ≡ false → IsPlain v → PassOne c true ty m v Waits v
  isolate_in : (ty : Ty) (n : ℕ) → IsFrozen ty ≡ false → PassOne c true ty (Some (Held c)) (Iso n) Waits (Iso n)

-- the marks after it
abbrev pub given_marks : Ty → ℕ → Value → Marks → Marks
given_marks (t.Frozen k) r v ms = ms
given_marks ty r v ms = taken r v ms

-- all arguments, one after another
pub data PassAll (c : ℕ) (pure : Bool) : List Ty → List ℕ → Marks → Registers → List How → List Value → Marks → Registers → Type 0 where
  none : (ms : Marks) (regs : Registers) → PassAll c pure [] [] ms regs [] [] ms regs
  more : (ty : Ty) (tys : List Ty) (r : ℕ) (rs : List ℕ) (ms : Marks) (regs : Registers) (v u : Value) (p : How) (ps : List How) (vs : List Value) (ns : Marks) (after : Registers)
      → read regs r ≡ Some v → PassOne c pure ty (mark ms r) v p u
      → PassAll c pure tys rs (given_marks ty r v ms) (after_giving ty r (Some v) regs) ps vs ns after
      → PassAll c pure (ty ∷ tys) (r ∷ rs) ms regs (p ∷ ps) (u ∷ vs) ns after

-- what arguments of a pure function are, once it is entered
abbrev pub seen_in : ℕ → How → How
seen_in c (Held a) = Seen (suc c)
seen_in c (Seen a) = Seen (suc c)
seen_in c Waits = Waits

-- ---- what all iterations of a loop get: copy values, and an `&imm` of what a register of this depth or one further out leads to

abbrev pub MayBeSeen : ℕ → How → Type 0
MayBeSeen c (Held b) = b ≤ c
MayBeSeen c (Seen b) = b ≤ c
MayBeSeen c Waits = ⊥

pub data CaptureAll (c : ℕ) (ms : Marks) (regs : Registers) : List Ty → List ℕ → List Value → Type 0 where
  nothing : CaptureAll c ms regs [] [] []
  leads : (k : Kind) (tys : List Ty) (r : ℕ) (rs : List ℕ) (how : How) (v : Value) (n : ℕ) (vs : List Value) → mark ms r ≡ Some how → MayBeSeen c how → read regs r ≡ Some v → name_of v ≡ Some n
      → CaptureAll c ms regs tys rs vs → CaptureAll c ms regs (t.Frozen k ∷ tys) (r ∷ rs) (Ref n ∷ vs)
  copies : (ty : Ty) (tys : List Ty) (r : ℕ) (rs : List ℕ) (v : Value) (vs : List Value) → IsFrozen ty ≡ false → read regs r ≡ Some v → IsPlain v
      → CaptureAll c ms regs tys rs vs → CaptureAll c ms regs (ty ∷ tys) (r ∷ rs) (v ∷ vs)

-- ---- values that go into an object: of this depth, or such as lead nowhere

pub data StoreAll (c : ℕ) : List ℕ → Marks → Registers → List Value → Marks → Registers → Type 0 where
  no_more : (ms : Marks) (regs : Registers) → StoreAll c [] ms regs [] ms regs
  one_more : (r : ℕ) (rs : List ℕ) (ms : Marks) (regs : Registers) (v : Value) (vs : List Value) (ns : Marks) (after : Registers) → read regs r ≡ Some v → (mark ms r ≡ Some (Held c)) ⊎ IsPlain v
      → StoreAll c rs (taken r v ms) (kept r v regs) vs ns after → StoreAll c (r ∷ rs) ms regs (v ∷ vs) ns after
