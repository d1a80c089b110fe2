-- What is printed of registers.
use Rattle.std.specs.Prelude.{◌≡◌, ℕ, List, Option, Some, None}
use Rattle.vale_state_spec.specs.State.{shown}
use Rattle.vale_state_spec.specs.World.{Value}
use Rattle.vale_code.specs.Registers.{read}
use Rattle.vale_registers.specs.Cells.{values_in}
use Rattle.vale_machine.specs.View.{own_cells}
use Rattle.vale_machine.specs.declared.machine.Machine.{Machine}

-- what is printed of a register; of an empty one nothing
abbrev pub shown_in : Option Value → Option (List ℕ)
shown_in None = None
shown_in (Some v) = shown v

-- something is printed of a register
abbrev pub IsShown : Machine → ℕ → Type 0
IsShown m from = (t : ℕ → List ℕ) × (bytes : List ℕ) × (shown_in (read (values_in t (own_cells m)) from) ≡ Some bytes)
