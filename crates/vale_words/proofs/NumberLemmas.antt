-- A word is read as the number that it is.
use Rattle.std.proofs.Common.{◌≡◌, ℕ, ◌<◌, ◌^◌, List, Ok, arith}
use Rattle.std.specs.Prelude.{Result}
use Rattle.std.specs.Str.Parse.{ParsesUnsigned}
use Rattle.std.proofs.lemmas.Fmt.{parse-decimal}
use Rattle.vale_words.specs.Words.{IsNumber}

pub parsed : {E : Type 0} (low high n : ℕ) (word : List ℕ) (r : Result ℕ E) → high < 2 ^ 64 → IsNumber low high word n → ParsesUnsigned 64 10 word r → r ≡ Ok n
parsed low high n word r fits is parses =
    let small : n < 2 ^ 64 = omega (arith, is.below, fits) in
    parse-decimal 64 n word r small small is.spelled parses
