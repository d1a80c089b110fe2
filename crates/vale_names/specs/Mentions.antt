-- What is known of the names that mention a name.
use Rattle.std.specs.Prelude.{ℕ, Bool, nat_eq, List, []}
use Rattle.std.specs.Option.{option_map_or}
use Rattle.std.specs.HashMap.{get}
use Rattle.vale_names.specs.declared.mentions.Mentions.{Mentions}
use Rattle.vale_names.specs.Isos.{is_in}

-- the names that mention the name of this number
abbrev pub mentioning : Mentions → ℕ → List ℕ
mentioning found n = option_map_or (λ sources. sources.items) (get nat_eq found.by_name n) []

-- whether the first name mentions the second
abbrev pub mentions : Mentions → ℕ → ℕ → Bool
mentions found m n = is_in (mentioning found n) m
