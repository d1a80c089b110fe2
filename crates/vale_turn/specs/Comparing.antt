-- What comparisons of registers come to.
use Rattle.std.specs.Prelude.{Option, Some, None, Bool, not}
use Rattle.std.specs.Cmp.Lexicographic.{slice_cmp}
use Rattle.std.specs.Ordering.{int_cmp, nat_cmp}
use Rattle.vale_state_spec.specs.World.{Value, Int, Truth, Text}
use Rattle.vale_text.specs.Steps.{Comparison, equal, not_equal, holds, same_truth}

-- whether a comparison holds of two numbers, truths or texts, where it has a rule
abbrev pub compared : Option Comparison → Option Value → Option Value → Option Bool
compared (Some c) (Some (Int x)) (Some (Int y)) = Some (holds c (int_cmp x y))
compared (Some c) (Some (Text x)) (Some (Text y)) = Some (holds c (slice_cmp nat_cmp x y))
compared (Some equal) (Some (Truth a)) (Some (Truth b)) = Some (same_truth a b)
compared (Some not_equal) (Some (Truth a)) (Some (Truth b)) = Some (not (same_truth a b))
compared _ _ _ = None
