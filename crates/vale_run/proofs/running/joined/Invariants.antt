use Rattle.std.proofs.Common.{◌≡◌, ◌++◌, drop}
use Rattle.vale_state_spec.specs.Outcome.{joined}
use Rattle.vale_run.proofs.running.joined.Given as goal

abbrev pub invariant-loop-piece : goal.invariant-loop-piece
invariant-loop-piece l = l.bytes.items ++ joined (drop l.piece-index l.pieces) ≡ joined l.pieces
