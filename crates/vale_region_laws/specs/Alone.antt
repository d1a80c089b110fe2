-- What an iteration by itself may get of a loop's items.
use Rattle.std.specs.Prelude.{◌≡◌, ℕ, ℤ, Some, slice_get}
use Rattle.vale_state_spec.specs.World.{Value, Int}
use Rattle.vale_code.specs.Frames.{Items, Numbers, Elements}

abbrev pub IsItem : Items → Value → Type 0
IsItem (Numbers x more) v = (z : ℤ) × (v ≡ Int z)
IsItem (Elements vs) v = (k : ℕ) × (slice_get vs k ≡ Some v)
