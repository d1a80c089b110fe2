-- The objects that the top call is handed.
use Rattle.std.specs.Prelude.{◌≤◌}
use Rattle.vale_ports.specs.Shelf.{ShelfState}
use Rattle.vale_ports.specs.Streams.{SourceState, SinkState}

-- as they stand at one moment
pub record Outside : Type 0 where
  pub shelf : ShelfState
  pub input : SourceState
  pub out : SinkState
  pub err : SinkState

-- no count of faults fell
pub record KeepsCounts (old new : Outside) : Type 0 where
  pub shelf : old.shelf.faults ≤ new.shelf.faults
  pub input : old.input.faults ≤ new.input.faults
  pub out : old.out.faults ≤ new.out.faults
  pub err : old.err.faults ≤ new.err.faults
