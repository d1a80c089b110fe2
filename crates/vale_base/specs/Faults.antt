-- Words for a call that answers its value, want of memory, or a fault of its own. Nothing is said of want of memory.
use Rattle.std.specs.Prelude.{Result, Ok, Err}
use Rattle.vale_base.specs.declared.fault.Fail.{Fail}
use Rattle.vale_base.specs.declared.fault.Fail.TheVariants.{Memory, Is}

-- the fact holds of the call's own fault, where it answered one
abbrev pub IfFault : {T F : Type 0} → Result T (Fail F) → (F → Type 0) → Type 0
IfFault (Ok value) P = Unit {0}
IfFault (Err Memory) P = Unit {0}
IfFault (Err (Is fault)) P = P fault

-- the call answered no value, or it is this one
abbrev pub IsValueUnlessMemory : {T F : Type 0} → Result T (Fail F) → (T → Type 0) → Type 0
IsValueUnlessMemory (Ok value) P = P value
IsValueUnlessMemory (Err Memory) P = Unit {0}
IsValueUnlessMemory (Err (Is fault)) P = ⊥

-- the call answered this fault of its own, or it wanted memory
abbrev pub IsFaultUnlessMemory : {T F : Type 0} → Result T (Fail F) → (F → Type 0) → Type 0
IsFaultUnlessMemory (Ok value) P = ⊥
IsFaultUnlessMemory (Err Memory) P = Unit {0}
IsFaultUnlessMemory (Err (Is fault)) P = P fault
