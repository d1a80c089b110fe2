use Rattle.std.proofs.Common.{arith}
use Rattle.vale_lexer.proofs.NumberLemmas.{too_large}
use Rattle.vale_lexer.proofs.numbers.number_of.Goals as goal

pub returns-then-value-gt-INT_MAX : goal.returns-then-value-gt-INT_MAX
returns-then-value-gt-INT_MAX c =
    too_large c.loop-digit.value c.loop-digit.digit-index c.args.digits.now (omega arith) (omega arith) c.loop-digit.invariant.same
