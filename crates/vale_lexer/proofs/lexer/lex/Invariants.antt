use Rattle.std.proofs.Common.{◌+◌, ◌<◌, ◌^◌, length}
use Rattle.vale_lexer.proofs.Goes.{Goes}
use Rattle.vale_lexer.proofs.lexer.lex.Given as goal

abbrev pub invariant-loop-list : goal.invariant-loop-list
invariant-loop-list l = record {
  goes : Goes l.bytes l.list.items l.at l.rest;
  few_lines : l.at.line + length l.rest < 2 ^ 32;
  few_cols : l.at.col + length l.rest < 2 ^ 32;
}

abbrev pub decreases-loop-list : goal.decreases-loop-list
decreases-loop-list l = length l.rest
