use Rattle.std.proofs.Common.{◌≡◌, ◌∙◌, Some, ap, sym, decimal, arith}
use Rattle.vale_words.proofs.NumberLemmas.{parsed}
use Rattle.vale_words.proofs.numbers.number_within.Goals as goal

pub returns-in-Ok-clause-complete : goal.returns-in-Ok-clause-complete
returns-in-Ok-clause-complete c n is =
    let same : c.in-Ok.number ≡ n = let k = sym c.in-Ok.is ∙ parsed _ _ n _ _ c.ranges.high.fits is c.parse.ensures.value.0 in cc k in
    ap Some same

pub returns-in_default-clause-complete : goal.returns-in_default-clause-complete
returns-in_default-clause-complete c n is =
    let same : c.in-Ok.number ≡ n = let k = sym c.in-Ok.is ∙ parsed _ _ n _ _ c.ranges.high.fits is c.parse.ensures.value.0 in cc k in
    absurd (let k = sym c.if-is_decimal.false ∙ c.is_decimal.ensures.1 (is.spelled ∙ ap decimal (sym same)) in cc k)

pub returns-in_default-2-clause-complete : goal.returns-in_default-2-clause-complete
returns-in_default-2-clause-complete c n is =
    let same : c.in-Ok.number ≡ n = let k = sym c.in-Ok.is ∙ parsed _ _ n _ _ c.ranges.high.fits is c.parse.ensures.value.0 in cc k in
    absurd (omega (arith, same, is.below, c.if-number-high.false))

pub returns-in_default-3-clause-complete : goal.returns-in_default-3-clause-complete
returns-in_default-3-clause-complete c n is =
    let same : c.in-Ok.number ≡ n = let k = sym c.in-Ok.is ∙ parsed _ _ n _ _ c.ranges.high.fits is c.parse.ensures.value.0 in cc k in
    absurd (omega (arith, same, is.above, c.if-low-number.false))

pub returns-in_default-4-clause-complete : goal.returns-in_default-4-clause-complete
returns-in_default-4-clause-complete c n is =
    let k = sym c.in_default.is ∙ parsed _ _ n _ _ c.ranges.high.fits is c.parse.ensures.value.0 in absurd (cc k)
