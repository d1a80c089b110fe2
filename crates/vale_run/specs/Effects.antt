-- What a job does.
use Rattle.std.specs.Prelude.{ℕ, List}
use Rattle.vale_base.specs.declared.spot.Spot.{Spot}
use Rattle.vale_ports.specs.declared.files.File.{File}
use Rattle.vale_state_spec.specs.Outcome.{Outcome}

pub data Effect : Type 0 where
  -- the text is refused, with this code at this spot
  refuses : ℕ → Spot → Effect
  -- the input is unlawful at this byte
  rejects : ℕ → Effect
  -- this is the output, none of which goes out before all of it is known
  prints : List ℕ → Effect
  -- this is what the run does, whose output may go out while it goes on
  runs : Outcome → Effect
  -- this file is written
  writes : File → Effect
  -- the code file can't be read: its first fault, and at which byte
  misreads : ℕ → ℕ → Effect
  -- the code of the file isn't certified: the first rule that is broken, and where
  distrusts : ℕ → ℕ → Effect
  -- the code of the file isn't run yet
  leaves_code : Effect
