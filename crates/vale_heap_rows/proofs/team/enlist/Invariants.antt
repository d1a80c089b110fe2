use Rattle.std.proofs.Common.{◌≡◌, true}
use Rattle.vale_table.specs.Means.{IsAt, seat_means}
use Rattle.vale_heap_rows.specs.Teams.{AreSeated}
use Rattle.vale_heap_rows.proofs.team.enlist.Given as goal

abbrev pub invariant-loop : goal.invariant-loop
invariant-loop g l = record {
  table : IsAt l.seat l.table;
  root : (seat_means l.seat).post.is_root ≡ true;
  team : AreSeated l.table l.team.items;
}
