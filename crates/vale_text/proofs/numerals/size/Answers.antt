use Rattle.std.proofs.Common.{arith, ◌+◌}
use Rattle.std.proofs.lemmas.Str.Parse.{digits_value-take-le}
use Rattle.vale_text.proofs.NumeralLemmas.{value_more, digits_more}
use Rattle.vale_text.proofs.numerals.size.Goals as goal

pub returns-then-size-gt-SIZE_LIMIT : goal.returns-then-size-gt-SIZE_LIMIT
returns-then-size-gt-SIZE_LIMIT c small =
    let more = value_more c.args.digits.now c.loop-digit.digit-index c.loop-digit-test.true c.if-not-is_ascii_digit.ensures.cases in
    let le = digits_value-take-le 10 c.args.digits.now (c.loop-digit.digit-index + 1) (omega arith) in
    omega (arith, more, le, small.1, c.loop-digit.invariant.same)

pub loop-digit-preserved : goal.loop-digit-preserved
loop-digit-preserved c =
    let more = value_more c.args.digits.now c.loop-digit.digit-index c.loop-digit-test.true c.if-not-is_ascii_digit.ensures.cases in
    record {
      small = omega arith;
      same = omega (arith, more, c.loop-digit.invariant.same);
      digits = digits_more c.args.digits.now c.loop-digit.digit-index c.loop-digit-test.true c.if-not-is_ascii_digit.ensures.cases c.loop-digit.invariant.digits;
    }
