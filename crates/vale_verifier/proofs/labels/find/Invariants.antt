use Rattle.std.proofs.Common.{◌≡◌, length}
use Rattle.vale_cert.specs.Known.{label_at}
use Rattle.vale_verifier.specs.Walking.{Ahead}
use Rattle.vale_verifier.proofs.labels.find.Given as goal

-- the label is among these
abbrev pub invariant-loop-among : goal.invariant-loop-among
invariant-loop-among l = record { ahead : Ahead 0 l.among; same : label_at l.among l.p ≡ label_at l.labels l.p }

abbrev pub decreases-loop-among : goal.decreases-loop-among
decreases-loop-among l = length l.among
