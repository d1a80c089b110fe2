use Rattle.std.proofs.Common.{◌≡◌, true, vec_len}
use Rattle.vale_table.specs.Means.{IsAt, seat_means}
use Rattle.vale_heap_rows.specs.Teams.{AreSeated}
use Rattle.vale_heap_rows.proofs.team.dismiss.Given as goal

abbrev pub invariant-loop-worker : goal.invariant-loop-worker
invariant-loop-worker g l = record {
  table : IsAt l.seat l.table;
  root : (seat_means l.seat).post.is_root ≡ true;
  team : AreSeated l.table l.team.items;
}

abbrev pub decreases-loop-worker : goal.decreases-loop-worker
decreases-loop-worker g l = vec_len l.team
