-- What a part gives, and what is found in one place or else in another.
use Rattle.std.specs.Prelude.{Option, Some, None}
use Rattle.vale_lowering_objects.specs.Scopes as s
use Rattle.vale_lower_flow.specs.declared.gives.Gives.{Gives}
use Rattle.vale_lower_flow.specs.declared.gives.Gives.TheVariants as g

abbrev pub view_gives : Gives → s.Gives
view_gives g.Void = s.void
view_gives g.Copied = s.copy
view_gives g.Owned = s.owner

abbrev pub or_else : {A : Type 0} → Option A → Option A → Option A
or_else (Some x) other = Some x
or_else None other = other
