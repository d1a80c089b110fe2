-- Types, each of which is put at the end where it is new.
use Rattle.std.specs.Prelude.{ℕ, List, [], ◌∷◌, ◌++◌, map, if◌then◌else◌}
use Rattle.std.specs.List.{list_any}
use Rattle.vale_rules_spec.specs.Types.{Ty, kind, same}

abbrev pub put_type : List Ty → Ty → List Ty
put_type ks x = if list_any (same x) ks then ks else ks ++ x ∷ []

abbrev pub added : List Ty → List Ty → List Ty
added ks [] = ks
added ks (x ∷ xs) = added (put_type ks x) xs

abbrev pub kind_types : List ℕ → List Ty
kind_types [] = []
kind_types (n ∷ ns) = kind n ∷ kind_types ns
