-- The larger of numbers, and rooms of registers.
use Rattle.std.proofs.Common.{◌≡◌, ◌≤◌, refl, ℕ, List, [], ◌∷◌, true, nat_lt, arith}
use Rattle.std.specs.Prelude.{max}
use Rattle.std.specs.List.{list_all}
use Rattle.std.proofs.lemmas.Bool.{and_from, lt-ltb}
use Rattle.vale_code.specs.Operands.{room_of}

pub max_in_turn : (a b c : ℕ) → max (max a b) c ≡ max a (max b c)
max_in_turn a b c = omega arith

pub max_zero : (a : ℕ) → max 0 a ≡ a
max_zero a = omega arith

pub max_last : (a : ℕ) → max a 0 ≡ a
max_last a = omega arith

pub ruleset larger_laws = (max_in_turn, max_zero, max_last)

-- where there is room for all of them, each is one of the first registers
pub below_room : (count : ℕ) (rs : List ℕ) → room_of rs ≤ count → list_all (λ r. nat_lt r count) rs ≡ true
below_room count [] room = refl
below_room count (r ∷ rs) room = and_from _ _ (lt-ltb r count (omega (arith, room))) (below_room count rs (omega (arith, room)))
