-- Whether parts of a body move a local, one part at a time.
use Rattle.std.specs.Prelude.{ℕ, Bool, false, ◌||◌, List, [], ◌∷◌}
use Rattle.vale_rules_spec.specs.Typed.{Link, link, ElseIf, else_if}
use Rattle.vale_rules_spec.specs.Owned.{expr_moves, block_moves}

abbrev pub link_moves : ℕ → Link → Bool
link_moves self (link x at op e) = expr_moves self e

abbrev pub else_if_moves : ℕ → ElseIf → Bool
else_if_moves self (else_if at c b) = expr_moves self c || block_moves self b

abbrev pub else_ifs_move : ℕ → List ElseIf → Bool
else_ifs_move self [] = false
else_ifs_move self (e ∷ es) = else_if_moves self e || else_ifs_move self es
