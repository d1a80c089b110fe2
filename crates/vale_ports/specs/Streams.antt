-- What a source and a sink are, as far as contracts see them.
use Rattle.std.specs.Prelude.{ℕ, List, Option}

-- the bytes that are left, where the source tells them, and how often it has failed
pub record SourceState : Type 0 where
  pub left : Option (List ℕ)
  pub faults : ℕ

-- the bytes that were written, where the sink tells them, and how often it has failed
pub record SinkState : Type 0 where
  pub written : Option (List ℕ)
  pub faults : ℕ
