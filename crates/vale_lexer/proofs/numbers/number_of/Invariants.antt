use Rattle.std.proofs.Common.{◌≡◌, ◌<◌, ◌^◌, drop}
use Rattle.vale_syntax.specs.Bytes.{value_behind}
use Rattle.vale_lexer.proofs.numbers.number_of.Given as goal

abbrev pub invariant-loop-digit : goal.invariant-loop-digit
invariant-loop-digit l = record {
  small : l.value < 2 ^ 63;
  same : value_behind l.value (drop l.digit-index l.digits) ≡ value_behind 0 l.digits;
}
