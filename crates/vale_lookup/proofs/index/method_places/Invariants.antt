use Rattle.std.proofs.Common.{◌≡◌, ℕ, map, drop}
use Rattle.vale_syntax.specs.View.{view_head}
use Rattle.std.specs.Option.{option_or}
use Rattle.vale_lookup.specs.Places.{place_in, place_from}
use Rattle.vale_lookup.specs.Index.{method_key}
use Rattle.vale_lookup.proofs.index.method_places.Given as goal

-- the places so far, and after them those of what is left, are those of all
abbrev pub invariant-loop-at : goal.invariant-loop-at
invariant-loop-at l = (n : ℕ) → option_or (place_in l.places n) (place_from l.at (map method_key (map view_head (drop l.at l.heads))) n) ≡ place_from 0 (map method_key (map view_head l.heads)) n
