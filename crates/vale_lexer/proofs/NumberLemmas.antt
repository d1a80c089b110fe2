-- The numbers that digits stand for.
use Rattle.std.proofs.Common.{◌≡◌, ℕ, suc, ◌+◌, ◌-◌, ◌*◌, ◌<◌, ◌≤◌, List, [], ◌∷◌, length, get_or, drop, None, arith, drop-cons}
use Rattle.std.proofs.lemmas.Bool.Decides.{nat_tests}
use Rattle.vale_syntax.specs.Bytes.{value_behind}
use Rattle.vale_lexer.specs.Next.{number_of}

-- more digits stand for no smaller number
value_behind-ge : (n : ℕ) (digits : List ℕ) → n ≤ value_behind n digits
value_behind-ge n [] = omega arith
value_behind-ge n (d ∷ digits) = omega (arith, value_behind-ge (10 * n + (d - 48)) digits)

number_none : (digits : List ℕ) → 9223372036854775807 < value_behind 0 digits → None ≡ number_of digits
number_none digits h = grind (arith, nat_tests)

-- where the first digits are no int, all are none
pub too_large : (v i : ℕ) (digits : List ℕ) → i < length digits → 9223372036854775807 < 10 * v + (get_or digits i 0 - 48) → value_behind v (drop i digits) ≡ value_behind 0 digits → None ≡ number_of digits
too_large v i digits inside large same =
    let cut : value_behind v (get_or digits i 0 ∷ drop (suc i) digits) ≡ value_behind 0 digits = rw (drop-cons digits i 0) at same in
    number_none digits (omega (arith, value_behind-ge (10 * v + (get_or digits i 0 - 48)) (drop (suc i) digits)))
