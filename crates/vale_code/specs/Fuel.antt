-- How many steps a run can still make: more than it makes.
use Rattle.std.specs.Prelude.{ℕ, suc, ◌+◌, ◌-◌, ◌*◌, List, [], ◌∷◌, Bool, true, false}
use Rattle.vale_code.specs.Frames.{Frame, Running, Dropping, Looping, Alone, Config}
use Rattle.vale_code.specs.Instructions.{fetch, is_tick}
use Rattle.vale_code.specs.Parts.{Parts}
use Rattle.vale_code.specs.Sizes.{instructions}

-- more than the places of any function
abbrev pub width : Parts → ℕ
width code = suc (instructions code.funcs)

-- what the places after one allow
abbrev pub places_from : Parts → ℕ → ℕ
places_from code p = (width code - p) + (width code - p)

-- A jump back to a tick is free, so a tick counts for less than other places.
abbrev pub before_tick : Parts → Bool → ℕ
before_tick code true = 0
before_tick code false = width code + width code

abbrev pub at_top : Parts → Frame → ℕ
at_top code (Running f) = places_from code f.place + before_tick code (is_tick (fetch code f.function f.place))
at_top code (Dropping f) = 1
at_top code (Looping f) = 1
at_top code (Alone v) = 1

abbrev pub under_way : Parts → Frame → ℕ
under_way code (Running f) = places_from code f.place + (width code + width code)
under_way code (Dropping f) = 1
under_way code (Looping f) = 1
under_way code (Alone v) = 1

abbrev pub at_below : Parts → List Frame → ℕ
at_below code [] = 0
at_below code (f ∷ fs) = under_way code f + at_below code fs

abbrev pub for_tick : Parts → ℕ
for_tick code = 6 * width code

abbrev pub fuel : Parts → Config → ℕ
fuel code c = c.state.left * for_tick code + at_top code c.top + at_below code c.below
