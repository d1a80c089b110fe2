-- What a seat means to a lender, and at which table it is.
use Rattle.std.specs.Prelude.{◌≡◌, ℕ}
use Rattle.vale_table.specs.declared.seat.Seat.{Seat}
use Rattle.vale_table.specs.declared.table.SharedTable.{SharedTable}
use Rattle.vale_table.specs.Seats.{Lending, lending}

module _ {B : Type 0} where
  abbrev pub frames_of : SharedTable B → ℕ
  frames_of t = t.frames

  abbrev pub seat_means : Seat B → Lending
  seat_means s = lending s.token.table_id s.token.me.0

  -- the seat is the table's
  abbrev pub IsAt : Seat B → SharedTable B → Type 0
  IsAt s t = s.token.table_id ≡ t.table.shared.table_id
