use Rattle.std.proofs.Common.{◌≡◌}
use Rattle.vale_table.specs.Means.{seat_means}
use Rattle.vale_heap_rows.proofs.team.claim_all.Given as goal

abbrev pub invariant-loop : goal.invariant-loop
invariant-loop g l = (seat_means l.worker.desk.seat).post ≡ (seat_means l.fn.worker.desk.seat).post
