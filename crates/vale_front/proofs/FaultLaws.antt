-- What is said of the faults of two calls.
use Rattle.std.specs.Prelude.{Result, Ok, Err}
use Rattle.vale_base.specs.Faults.{IfFault, IsValueUnlessMemory}
use Rattle.vale_base.specs.declared.fault.Fail.{Fail}
use Rattle.vale_base.specs.declared.fault.Fail.TheVariants.{Memory, Is}

pub fault_weaker : {T F : Type 0} (r : Result T (Fail F)) (P Q : F → Type 0) → ((f : F) → P f → Q f) → IfFault r P → IfFault r Q
fault_weaker (Ok v) P Q weaker h = tt
fault_weaker (Err Memory) P Q weaker h = tt
fault_weaker (Err (Is f)) P Q weaker h = weaker f h

-- the same failure of a call that would give another value

pub fault_of : {F : Type 0} (e : Fail F) (P Q : F → Type 0) → ((f : F) → P f → Q f) → IfFault {T = Unit {0}} (Err e) P → IfFault {T = Unit {0}} (Err e) Q
fault_of Memory P Q weaker h = tt
fault_of (Is f) P Q weaker h = weaker f h

pub no_value : {S T F : Type 0} (e : Fail F) (P : S → Type 0) (Q : T → Type 0) → IsValueUnlessMemory {F = F} (Err e) P → IsValueUnlessMemory {F = F} (Err e) Q
no_value Memory P Q h = tt
no_value (Is f) P Q h = absurd h
