-- A text is read digit by digit.
use Rattle.std.proofs.Common.{◌≡◌, ℕ, ◌+◌, ◌-◌, ◌*◌, ◌<◌, ◌≤◌, List, length, get_or, take, true, arith}
use Rattle.std.specs.Int.{IsInRange}
use Rattle.std.specs.List.{list_all}
use Rattle.std.specs.Str.Parse.{digits_value}
use Rattle.std.proofs.lemmas.Int.Digits.{digits_value_more}
use Rattle.std.proofs.lemmas.List.Folds.{list_all_more}
use Rattle.std.proofs.lemmas.Str.{digit_value_digit}
use Rattle.std.proofs.lemmas.Bool.Decides.{nat_tests}
use Rattle.vale_text.specs.Operations.{is_digit}

pub value_more : (digits : List ℕ) (i : ℕ) → i < length digits → IsInRange 48 57 (get_or digits i 0) → digits_value 10 (take (i + 1) digits) ≡ 10 * digits_value 10 (take i digits) + (get_or digits i 0 - 48)
value_more digits i inside digit = omega (arith, digits_value_more 10 digits i inside, digit_value_digit (get_or digits i 0) digit)

pub is_digit_at : (c : ℕ) → 48 ≤ c → c ≤ 57 → is_digit c ≡ true
is_digit_at c low high = grind (arith, nat_tests)

pub digits_more : (digits : List ℕ) (i : ℕ) → i < length digits → IsInRange 48 57 (get_or digits i 0) → list_all is_digit (take i digits) ≡ true → list_all is_digit (take (i + 1) digits) ≡ true
digits_more digits i inside digit before =
    let last = is_digit_at (get_or digits i 0) digit.0 digit.1 in
    grind (arith, list_all_more is_digit digits i 0 inside, before, last)
