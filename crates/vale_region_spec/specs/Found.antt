-- The first fault of a part, and what is answered by it.
use Rattle.std.specs.Prelude.{ℕ, Option, Some, None, Result, Ok, Err}
use Rattle.vale_base.specs.declared.spot.Spot.{Spot}
use Rattle.vale_syntax.specs.declared.fault.Fault.{Fault}

-- where a node breaks a rule of this code
abbrev pub found_at : Spot → Option ℕ → Option Fault
found_at at None = None
found_at at (Some code) = Some (record { code = code; at = at })

abbrev pub verdict : Option Fault → Result (Unit {0}) Fault
verdict None = Ok tt
verdict (Some fault) = Err fault
