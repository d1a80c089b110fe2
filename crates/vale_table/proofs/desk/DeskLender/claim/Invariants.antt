use Rattle.std.proofs.Common.{◌-◌}
use Rattle.vale_table.specs.Means.{IsAt, frames_of, seat_means}
use Rattle.vale_table.specs.Seats.{IsLearned}
use Rattle.vale_table.proofs.desk.DeskLender.claim.Given as goal

abbrev pub invariant-loop-self : goal.invariant-loop-self
invariant-loop-self g l = record {
  table : IsAt l.self.seat l.table;
  learned : IsLearned (seat_means l.fn.self.seat) (seat_means l.self.seat);
}

abbrev pub decreases-loop-self : goal.decreases-loop-self
decreases-loop-self g l = frames_of l.table - l.self.seat.next
