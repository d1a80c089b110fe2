use Rattle.std.proofs.Common.{◌≡◌, ◌<◌, ◌≤◌, ℕ, get_or}
use Rattle.vale_codec.proofs.numbers.end_of_number.Given as goal

abbrev pub invariant-loop-b : goal.invariant-loop-b
invariant-loop-b l = record { at : l.end ≡ l.b-index; before : (k : ℕ) → k < l.b-index → 128 ≤ get_or l.bytes k 0 }
