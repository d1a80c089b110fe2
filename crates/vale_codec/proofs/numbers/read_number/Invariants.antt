use Rattle.std.proofs.Common.{◌≡◌, ◌<◌, ◌≤◌, ℕ, length, get_or, drop, suc, true, Some}
use Rattle.vale_codec.specs.Numbers.{group_at}
use Rattle.vale_codec.proofs.numbers.read_number.Given as goal

abbrev pub invariant-loop-place : goal.invariant-loop-place
invariant-loop-place l = record {
  at : group_at (drop l.place l.bytes) ≡ Some (record { worth = l.worth; shortest = true; rest = drop (suc l.end) l.bytes });
  within : l.place ≤ l.end;
  known : (k : ℕ) → k < l.end → 128 ≤ get_or l.bytes k 0;
  inside : l.end < length l.bytes;
}

abbrev pub decreases-loop-place : goal.decreases-loop-place
decreases-loop-place l = l.place
