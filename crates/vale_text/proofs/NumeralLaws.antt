-- What is written of an int is read as this int.
use Rattle.std.proofs.Common.{◌≡◌, ◌∙◌, refl, ap, ℕ, suc, ◌<◌, ◌^◌, ℤ, pos, negsuc, List, [], ◌∷◌, length, true, arith, decimal, Some, FitsSigned, w64}
use Rattle.std.specs.Prelude.{Ok}
use Rattle.std.specs.List.{list_all}
use Rattle.std.specs.Str.Parse.{AllDigits, digits_value}
use Rattle.std.proofs.lemmas.Fmt.{decimal_is_IsNumeral}
use Rattle.std.proofs.lemmas.Str.Parse.{digit_from_value}
use Rattle.std.proofs.lemmas.Bool.Decides.{nat_tests}
use Rattle.vale_text.specs.Operations.{is_digit, are_digits, digits_number, negated, written_in, number, number_of, text_of, is_int}
use Rattle.vale_text.proofs.NumeralLemmas.{is_digit_at}

all_digits : (cs : List ℕ) → AllDigits 10 cs → list_all is_digit cs ≡ true
all_digits [] h = refl
all_digits (c ∷ cs) h =
    let d = digit_from_value c h.0 in
    let first = is_digit_at c d.0 d.1 in
    let rest = all_digits cs h.1 in
    grind (arith, first, rest)

numeral : (cs : List ℕ) → AllDigits 10 cs → 0 < length cs → are_digits cs ≡ true
numeral [] h some = absurd (omega arith)
numeral (c ∷ cs) h some = all_digits (c ∷ cs) h

digits_read : (cs : List ℕ) (n : ℕ) → AllDigits 10 cs → 0 < length cs → digits_value 10 cs ≡ n → digits_number cs ≡ Some (pos n)
digits_read cs n h some e = let are = numeral cs h some in grind (arith, are, e)

bare : (cs : List ℕ) (n : ℕ) → AllDigits 10 cs → 0 < length cs → digits_value 10 cs ≡ n → written_in cs ≡ Some (pos n)
bare [] n h some e = absurd (omega arith)
bare (c ∷ cs) n h some e =
    let d = digit_from_value c h.0 in
    let read = digits_read (c ∷ cs) n h some e in
    grind (arith, nat_tests, read, d)

in_range : (z : ℤ) → is_int z ≡ true → number_of (Some z) ≡ Ok z
in_range z h = grind (arith, h)

pub read_again : (z : ℤ) → is_int z ≡ true → number (text_of z) ≡ Ok z
read_again (pos n) h =
    let small : n < 2 ^ 63 = grind (arith, nat_tests, h) in
    let k = decimal_is_IsNumeral n (omega arith) in
    ap number_of (bare (decimal n) n k.0.1 k.0.0 k.1) ∙ in_range (pos n) h
read_again (negsuc n) h =
    let small : n < 2 ^ 63 = grind (arith, nat_tests, h) in
    let k = decimal_is_IsNumeral (suc n) (omega arith) in
    ap (λ o. number_of (negated o)) (digits_read (decimal (suc n)) (suc n) k.0.1 k.0.0 k.1) ∙ in_range (negsuc n) h

pub is_int_fits : (z : ℤ) → FitsSigned w64 z → is_int z ≡ true
is_int_fits (pos n) fits = grind (arith, nat_tests, fits.sfits)
is_int_fits (negsuc n) fits = grind (arith, nat_tests, fits.sfits)
