-- Configurations from which a run meets nothing that has no rule, and ends no object that is the root of an isolate.
use Rattle.std.specs.Prelude.{◌≡◌, ◌≢◌, ℕ, Option, Some, None}
use Rattle.vale_state_spec.specs.World.{Isolate, Lives, Object, Own}
use Rattle.vale_code.specs.Destroy.{Owned, first_owned}
use Rattle.vale_code.specs.Frames.{Config, Frame, Running, Dropping, On}
use Rattle.vale_code.specs.Instructions.{fetch}
use Rattle.vale_code.specs.Parts.{Parts}
use Rattle.vale_code.specs.Registers.{read}
use Rattle.vale_code.specs.Run.{step, steps}
use Rattle.vale_code.specs.declared.instr.Instr.{Instr}
use Rattle.vale_code.specs.declared.instr.Instr.TheVariants as i
use Rattle.vale_turn.specs.View.{IsRight}

-- the register whose object an instruction destroys or takes apart
abbrev pub ended_by : Option Instr → Option ℕ
ended_by (Some (i.Destroy a at)) = Some a
ended_by (Some (i.Open to a)) = Some a
ended_by _ = None

-- the object of this name is ended in the next step, by its owner
abbrev pub EndsNext : Parts → Frame → ℕ → Type 0
EndsNext code (Running f) n = (a : ℕ) × (ended_by (fetch code f.function f.place) ≡ Some a) × (read f.registers a ≡ Some (Own n))
EndsNext code (Dropping f) n = (o : Owned) × (first_owned f.rest ≡ Some o) × (o.first ≡ Own n)
EndsNext code _ n = ⊥

-- a rule gives the next step, and it ends no root
pub record IsGood (code : Parts) (c : Config) : Type 0 where
  pub right : IsRight (step code c)
  pub no_root : (n : ℕ) (o : Object) → EndsNext code c.top n → Lives c.state.world n o → o.region ≢ Isolate n

-- so is each configuration that a run comes to from here
abbrev pub IsSound : Parts → Config → Type 0
IsSound code c = (n : ℕ) (d : Config) → steps code n c ≡ On d → IsGood code d
