-- Whether the values of a call are one owner.
use Rattle.std.specs.Prelude.{Bool, false, List, [], ◌∷◌}
use Rattle.vale_lowering_objects.specs.Scopes.{Gives, is_owner}

abbrev pub is_one_owner : List Gives → Bool
is_one_owner (q ∷ []) = is_owner q
is_one_owner _ = false
