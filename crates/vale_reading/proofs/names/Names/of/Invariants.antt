use Rattle.std.proofs.Common.{◌≡◌, drop}
use Rattle.vale_syntax.specs.Grammar.{names_in}
use Rattle.vale_reading.specs.Seen.{nows, seen_in}
use Rattle.vale_reading.proofs.names.Names.of.Given as goal

abbrev pub invariant-loop-token : goal.invariant-loop-token
invariant-loop-token l = seen_in (nows l.texts.keys) (drop l.token-index l.tokens) ≡ names_in l.tokens
