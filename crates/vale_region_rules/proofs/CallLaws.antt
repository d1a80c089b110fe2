-- Where nothing is asked for.
use Rattle.std.proofs.Common.{◌≡◌, List, [], ◌∷◌, refl}
use Rattle.std.specs.Prelude.{false}
use Rattle.vale_rules_spec.specs.Types.{Ty}
use Rattle.vale_region_spec.specs.RegionRules.{any_thaws}

pub none_asked : (ts : List Ty) → any_thaws ts [] ≡ false
none_asked [] = refl
none_asked (t ∷ ts) = refl
