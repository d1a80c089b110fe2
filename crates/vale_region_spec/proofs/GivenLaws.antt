-- What a parallel loop gives.
use Rattle.std.proofs.Common.{◌≡◌, List, refl}
use Rattle.std.specs.Prelude.{Bool, true, false, ◌||◌, not, if◌then◌else◌}
use Rattle.vale_syntax.specs.Tree.{Item}
use Rattle.vale_rules_spec.specs.Types.{Ty, void, int, bool, str, kind, array, ref, imm, iso, is_void, is_copy, may_be_isolated}
use Rattle.vale_rules_spec.specs.TypeRules.{is_iso, parallel_gives}

in_turn : (copied isolated : Bool) (t : Ty) → not (is_void (if copied then array t else if isolated then array (iso t) else void)) ≡ (copied || isolated)
in_turn true isolated t = refl
in_turn false true t = refl
in_turn false false t = refl

pub what_is_given : (items : List Item) (t : Ty) → not (is_void (parallel_gives items t)) ≡ (is_iso t || (is_copy t || may_be_isolated items t))
what_is_given items (iso x) = refl
what_is_given items void = in_turn false (may_be_isolated items void) void
what_is_given items int = refl
what_is_given items bool = refl
what_is_given items str = refl
what_is_given items (kind n) = in_turn false (may_be_isolated items (kind n)) (kind n)
what_is_given items (array x) = in_turn false (may_be_isolated items (array x)) (array x)
what_is_given items (ref x) = in_turn false (may_be_isolated items (ref x)) (ref x)
what_is_given items (imm x) = in_turn false (may_be_isolated items (imm x)) (imm x)
