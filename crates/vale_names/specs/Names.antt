-- What a set of names has.
use Rattle.std.specs.Prelude.{ℕ, Bool, nat_eq}
use Rattle.std.specs.HashSet.{contains}
use Rattle.vale_names.specs.declared.names.Names.{Names}

-- whether the name of this number is there
abbrev pub has : Names → ℕ → Bool
has names n = contains nat_eq names.numbers n
