-- Where in a list something of a name stands first.
use Rattle.std.specs.Prelude.{◌≡◌, ℕ, ◌+◌, Bool, false, ◌==◌, nat_eq, List, [], ◌∷◌, Option, Some, None, if◌then◌else◌}
use Rattle.std.specs.HashMap.{get}
use Rattle.vale_lookup.specs.declared.places.Places.{Places}

-- the place that the name of this number has
abbrev pub place_in : Places → ℕ → Option ℕ
place_in places n = get nat_eq places.places n

-- whether it is the name of this number
abbrev pub is_name : Option ℕ → ℕ → Bool
is_name None n = false
is_name (Some m) n = m == n

-- the first place of the name among these, the first of which has this place
abbrev pub place_from : ℕ → List (Option ℕ) → ℕ → Option ℕ
place_from at [] n = None
place_from at (key ∷ keys) n = if is_name key n then Some at else place_from (at + 1) keys n

-- each name has the first of its places
abbrev pub HasPlaces : List (Option ℕ) → Places → Type 0
HasPlaces keys places = (n : ℕ) → place_in places n ≡ place_from 0 keys n
