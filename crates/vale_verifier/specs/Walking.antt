-- What the walk over instructions carries.
use Rattle.std.specs.Prelude.{ℕ, ◌+◌, ◌≤◌, List, [], ◌∷◌, length, Option, Some, None, Bool, true, ◌==◌, nat_le}
use Rattle.vale_code.specs.declared.func.Func.{Func}
use Rattle.vale_cert.specs.Known.{Known, is_label}
use Rattle.vale_cert.specs.declared.facts.Label.{Label}
use Rattle.vale_cert.specs.declared.facts.RegFact.{RegFact}

-- the places of the labels rise, from this place on
abbrev pub Ahead : ℕ → List Label → Type 0
Ahead p [] = Unit {0}
Ahead p (label ∷ labels) = (p ≤ label.at) × Ahead (label.at + 1) labels

-- what is known: the registers, where there is a depth
abbrev pub known_of : Option ℕ → List RegFact → Option Known
known_of None regs = None
known_of (Some depth) regs = Some (record { depth = depth; regs = regs })

-- whether there is a label at a target, where there is a target
abbrev pub has_or_none : Option ℕ → Option Label → Bool
has_or_none None label = true
has_or_none (Some p) label = is_label label

-- a label states something of each register of a function with so many
abbrev pub states_all : ℕ → Label → Bool
states_all registers label = length label.regs == registers

abbrev pub has_room : ℕ → Func → Bool
has_room room f = nat_le f.registers room
