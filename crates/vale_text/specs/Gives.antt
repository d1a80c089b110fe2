-- A call that takes memory gives what an operation gives. It may want memory, but never in place of a trap.
use Rattle.std.specs.Prelude.{◌≡◌, ℕ, List, Result, Ok, Err, IsOk}
use Rattle.vale_base.specs.declared.fault.Fail.{Fail}
use Rattle.vale_base.specs.declared.fault.Fail.TheVariants.{Memory, Is}
use Rattle.vale_base.specs.declared.trap.TrapKind.{TrapKind}

abbrev pub Gives : Result (List ℕ) (Fail TrapKind) → Result (List ℕ) TrapKind → Type 0
Gives (Ok text) meaning = meaning ≡ Ok text
Gives (Err Memory) meaning = IsOk meaning
Gives (Err (Is kind)) meaning = meaning ≡ Err kind
