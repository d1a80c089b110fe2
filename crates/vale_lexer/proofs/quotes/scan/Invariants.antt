use Rattle.std.proofs.Common.{◌≡◌, ◌≤◌, ◌++◌, length}
use Rattle.vale_lexer.specs.Next.{scan}
use Rattle.vale_lexer.proofs.quotes.scan.Given as goal

abbrev pub invariant-loop-byte : goal.invariant-loop-byte
invariant-loop-byte l = record {
  text : l.text.items ++ (scan l.rest).text ≡ (scan l.bytes).text;
  within : length l.rest ≤ length l.bytes;
  rest : (scan l.rest).rest ≡ (scan l.bytes).rest;
}

abbrev pub decreases-loop-byte : goal.decreases-loop-byte
decreases-loop-byte l = length l.rest
