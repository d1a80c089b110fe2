-- What a walk over a part of a body gives.
use Rattle.std.specs.Prelude.{ℕ, ◌-◌, Result}
use Rattle.vale_syntax.specs.declared.fault.Fault.{Fault}
use Rattle.vale_rules_spec.specs.Judged.{stopped}
use Rattle.vale_rules_spec.specs.DeclFaults.{Body}

-- how many names may still be declared after the part, where so many might before; or its first fault
abbrev pub walked : Body → ℕ → Result ℕ Fault
walked body left = stopped body.faults (left - body.declared)
