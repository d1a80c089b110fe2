-- Names and their numbers.
use Rattle.std.specs.Prelude.{◌≡◌, ℕ, ◌+◌, ◌==◌, nat_eq, List, [], ◌∷◌, map, Option, Some, None, if◌then◌else◌}
use Rattle.std.specs.HashMap.{get}
use Rattle.vale_base.specs.declared.name.Name.{Name}
use Rattle.vale_lower_kinds.specs.declared.named.Places.{Places}

abbrev pub names_of : List Name → List ℕ
names_of ns = map (λ n. n.0) ns

abbrev pub place_in : Places → ℕ → Option ℕ
place_in p n = get nat_eq p.places n

-- the place of a name, where the first of these has this one
abbrev pub name_place : ℕ → ℕ → List ℕ → Option ℕ
name_place at n [] = None
name_place at n (m ∷ ms) = if n == m then Some at else name_place (at + 1) n ms

abbrev pub AreNumbered : List ℕ → Places → Type 0
AreNumbered ns p = (n : ℕ) → place_in p n ≡ name_place 0 n ns
