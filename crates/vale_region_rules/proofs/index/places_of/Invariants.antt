use Rattle.std.proofs.Common.{◌≡◌, ℕ, map, drop}
use Rattle.std.specs.Option.{option_or}
use Rattle.vale_core.specs.View.{view_item}
use Rattle.vale_region_rules.specs.Places.{place_in, place_from}
use Rattle.vale_region_rules.proofs.index.places_of.Given as goal

-- the places so far, and after them those of what is left, are those of all
abbrev pub invariant-loop-at : goal.invariant-loop-at
invariant-loop-at l = (n : ℕ) → option_or (place_in l.places n) (place_from l.at (map view_item (drop l.at l.items)) n) ≡ place_from 0 (map view_item l.items) n
