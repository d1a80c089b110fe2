-- Where a function goes on after an instruction on objects.
use Rattle.std.specs.Prelude.{◌≡◌, ℕ, ◌+◌}
use Rattle.vale_base.specs.declared.spot.Spot.{Spot}
use Rattle.vale_turn.specs.declared.stop.Stop.{Stop}
use Rattle.vale_turn.specs.declared.stop.Stop.TheVariants as stop
use Rattle.vale_object_steps.specs.declared.effect.Effect.{Effect}
use Rattle.vale_object_steps.specs.declared.effect.Effect.TheVariants as effect

-- it goes on at the next instruction, or it traps at this spot
abbrev pub Landed : Effect → Spot → Stop → ℕ → ℕ → Type 0
Landed effect.Done at told place new = (told ≡ stop.Going) × (new ≡ place + 1)
Landed (effect.Trap kind) at told place new = told ≡ stop.Trap kind at
