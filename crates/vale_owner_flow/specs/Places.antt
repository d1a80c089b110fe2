-- Locals as the code has them, of which the last declared is the last.
use Rattle.std.specs.Prelude.{ℕ, suc, Bool, true, false, not, ◌==◌, ◌&&◌, List, [], ◌∷◌, Option, Some, None, if◌then◌else◌}
use Rattle.vale_owner_flow.specs.declared.locals.Local.{Local}

abbrev pub or_first : Bool → Option ℕ → Option ℕ
or_first is_first None = if is_first then Some 0 else None
or_first is_first (Some at) = Some (suc at)

-- where the last of those with this name stands
abbrev pub place_of : ℕ → List Local → Option ℕ
place_of n [] = None
place_of n (l ∷ ls) = or_first (l.name.0 == n) (place_of n ls)

abbrev pub same : Bool → Bool → Bool
same true b = b
same false b = not b

-- whether the same of them are whole
abbrev pub alike : List Local → List Local → Bool
alike [] [] = true
alike (l ∷ ls) (m ∷ ms) = same l.whole m.whole && alike ls ms
alike _ _ = false
