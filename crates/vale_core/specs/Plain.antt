-- Values without the types that the code gives them.
use Rattle.std.specs.Prelude.{ℕ, Option, option_map}
use Rattle.vale_base.specs.declared.name.Name.{Name}

abbrev pub number_of : Option Name → Option ℕ
number_of n = option_map (λ m. m.0) n
