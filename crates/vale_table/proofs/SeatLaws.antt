-- Laws of seats, for those that lend them out.
use Rattle.std.proofs.Common.{◌≡◌, Some}
use Rattle.vale_table.specs.declared.seat.Seat.{Seat}
use Rattle.vale_table.specs.declared.table.SharedTable.{SharedTable}
use Rattle.vale_table.specs.Means.{IsAt, seat_means}

module _ {B : Type 0} where
  -- a seat whose post is the same is at the same table
  pub at_table_still : (old new : Seat B) (table : SharedTable B) → (seat_means new).post ≡ (seat_means old).post → IsAt old table → IsAt new table
  at_table_still old new table same at =
      let place : Some new.token.table_id ≡ Some old.token.table_id = λ i. (same i).place in
      let is : new.token.table_id ≡ old.token.table_id = cc in
      cc
