-- What a step starts from, as the code has it, and which type is that of texts.
use Rattle.std.specs.Prelude.{Bool, true, false}
use Rattle.vale_rules_spec.specs.Types.{Ty, str}
use Rattle.vale_lowering_objects.specs.Lowered as l
use Rattle.vale_lower_places.specs.declared.places.Origin.{Origin}
use Rattle.vale_lower_places.specs.declared.places.Origin.TheVariants as o

abbrev pub view_origin : Origin → l.Origin
view_origin (o.AtHand r) = l.at_hand r
view_origin (o.Reference r) = l.reference r

abbrev pub is_text : Ty → Bool
is_text str = true
is_text _ = false
