-- Indices of elements.
use Rattle.std.specs.Prelude.{ℕ, ℤ, pos, negsuc, Option, Some, None, nat_lt, if◌then◌else◌}

-- the place among so many elements that an index names
abbrev pub found_index : ℤ → ℕ → Option ℕ
found_index (pos i) count = if nat_lt i count then Some i else None
found_index (negsuc i) count = None
