-- What is kept of a program's items.
use Rattle.std.specs.Prelude.{◌≡◌, ℕ, ◌+◌, nat_eq, List, [], ◌∷◌, map, Option, Some, None, if◌then◌else◌}
use Rattle.std.specs.HashMap.{get}
use Rattle.vale_rules_spec.specs.Typed.{Item}
use Rattle.vale_core.specs.View.{view_item}
use Rattle.vale_region_spec.specs.RegionRules.{name_of, is_name}
use Rattle.vale_region_rules.specs.declared.index.FirstPlaces.{FirstPlaces}

abbrev pub place_in : FirstPlaces → ℕ → Option ℕ
place_in places n = get nat_eq places.first n

-- the first place of the name among items the first of which has this place
abbrev pub place_from : ℕ → List Item → ℕ → Option ℕ
place_from at [] n = None
place_from at (x ∷ xs) n = if is_name (name_of x) n then Some at else place_from (at + 1) xs n

-- each name has the first of its places
abbrev pub HasPlaces : List Item → FirstPlaces → Type 0
HasPlaces items places = (n : ℕ) → place_in places n ≡ place_from 0 items n
