-- Workers at a table.
use Rattle.std.specs.Prelude.{◌≡◌, List, All, Some, false}
use Rattle.vale_table.specs.declared.table.SharedTable.{SharedTable}
use Rattle.vale_table.specs.Means.{seat_means}
use Rattle.vale_heap_rows.specs.declared.worker.Worker.{Worker}

-- the worker has a worker's seat of this table
pub record SitsAt {B : Type 0} (table : SharedTable B) (worker : Worker B) : Type 0 where
  pub at : (seat_means worker.desk.seat).post.place ≡ Some table.table.shared.table_id
  pub no_root : (seat_means worker.desk.seat).post.is_root ≡ false

abbrev pub AreSeated : {B : Type 0} → SharedTable B → List (Worker B) → Type 0
AreSeated table workers = All (SitsAt table) workers
