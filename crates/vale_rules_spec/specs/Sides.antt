-- The sides of an `if` after its first one.
use Rattle.std.specs.Prelude.{Bool, true, ◌&&◌, List, [], ◌∷◌}
use Rattle.vale_rules_spec.specs.Typed.{ElseIf, else_if}
use Rattle.vale_rules_spec.specs.Returns.{block_returns}

abbrev pub else_if_returns : ElseIf → Bool
else_if_returns (else_if at c b) = block_returns b

abbrev pub each_returns : List ElseIf → Bool
each_returns [] = true
each_returns (e ∷ es) = else_if_returns e && each_returns es
