-- What is known of a set of names that grows.
use Rattle.std.specs.Prelude.{◌≡◌, ℕ, ◌+◌, ◌≤◌, Bool, true, ◌||◌, List, length}
use Rattle.vale_names.specs.declared.spread.Spread.{Spread}
use Rattle.vale_names.specs.Names.{has}
use Rattle.vale_names.specs.Isos.{is_in, missing, Within}

-- whether the name is in the set
abbrev pub finds : Spread → ℕ → Bool
finds spread n = has spread.found n

-- whether it is still to be looked at
abbrev pub awaits : Spread → ℕ → Bool
awaits spread n = is_in spread.todo.items n

-- how many are still to be looked at, and how many of the sources aren't in the set yet
abbrev pub work : Spread → List ℕ → ℕ
work spread sources = length spread.todo.items + missing (has spread.found) sources

-- the names are in the set too, and what was added is still to be looked at
pub record Spreads (names : List ℕ) (old new : Spread) : Type 0 where
  pub found : (n : ℕ) → finds new n ≡ (finds old n || is_in names n)
  pub awaited : (n : ℕ) → finds new n ≡ true → (finds old n || awaits new n) ≡ true
  pub more : Within (awaits old) (awaits new)
  pub known : Within (awaits old) (finds old) → Within (awaits new) (finds new)
  pub falls : (sources : List ℕ) → Within (is_in names) (is_in sources) → work new sources ≤ work old sources
