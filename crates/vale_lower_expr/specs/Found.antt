-- What is found in one place or else in another, and which type it has.
use Rattle.std.specs.Prelude.{Bool, true, false, Option, Some, None}
use Rattle.vale_rules_spec.specs.Types.{Ty, str}

abbrev pub or_else : {A : Type 0} → Option A → Option A → Option A
or_else (Some x) other = Some x
or_else None other = other

abbrev pub is_text : Ty → Bool
is_text str = true
is_text _ = false
