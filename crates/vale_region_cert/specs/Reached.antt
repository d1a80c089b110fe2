-- The configurations that a run comes to, and what ends in their next step.
use Rattle.std.specs.Prelude.{◌≡◌, ℕ, Option, Some}
use Rattle.vale_state_spec.specs.State.{State}
use Rattle.vale_state_spec.specs.World.{Own}
use Rattle.vale_code.specs.Act.{step_by}
use Rattle.vale_code.specs.Destroy.{Owned, first_owned}
use Rattle.vale_code.specs.Frames.{Active, Frame, Running, Dropping, Config, Next, On}
use Rattle.vale_code.specs.Instructions.{fetch}
use Rattle.vale_code.specs.Parts.{Parts}
use Rattle.vale_code.specs.Registers.{read}
use Rattle.vale_code.specs.declared.instr.Instr.{Instr}
use Rattle.vale_code.specs.declared.instr.Instr.TheVariants as i

-- from what a step led to, by single steps
pub data Reached (code : Parts) (last : Config → State) : Next → Config → Type 0 where
  here : (d : Config) → Reached code last (On d) d
  later : (c d : Config) → Reached code last (step_by code last c) d → Reached code last (On c) d

-- the object of this name is destroyed or taken apart
abbrev pub EndsBy : Active → Option Instr → ℕ → Type 0
EndsBy f (Some (i.Destroy a at)) n = read f.registers a ≡ Some (Own n)
EndsBy f (Some (i.Open to a)) n = read f.registers a ≡ Some (Own n)
EndsBy f _ n = ⊥

abbrev pub EndsAt : Parts → Frame → ℕ → Type 0
EndsAt code (Running f) n = EndsBy f (fetch code f.function f.place) n
EndsAt code (Dropping f) n = (o : Owned) × (first_owned f.rest ≡ Some o) × (o.first ≡ Own n)
EndsAt code _ n = ⊥

-- it ends in the next step
abbrev pub Ends : Parts → Config → ℕ → Type 0
Ends code d n = EndsAt code d.top n
