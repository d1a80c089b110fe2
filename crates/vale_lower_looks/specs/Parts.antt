-- The same of the parts of lists.
use Rattle.std.specs.Prelude.{ℕ, Bool, ◌&&◌, ◌||◌, List, [], ◌∷◌}
use Rattle.vale_rules_spec.specs.Typed.{Link, link, ElseIf, else_if}
use Rattle.vale_lowering_objects.specs.Changes.{expr_changes, block_changes}
use Rattle.vale_lower_looks.specs.Comes.{operand_comes, expr_comes, block_comes}

abbrev pub link_comes : Link → Bool
link_comes (link x at op e) = operand_comes op (expr_comes e)

abbrev pub link_changes : ℕ → Link → Bool
link_changes local (link x at op e) = expr_changes local e

abbrev pub else_if_changes : ℕ → ElseIf → Bool
else_if_changes local (else_if at c b) = expr_changes local c || block_changes local b

-- whether a run comes behind one of these, or behind what stands after them
abbrev pub else_if_comes : ElseIf → Bool → Bool
else_if_comes (else_if at c b) rest = expr_comes c && (block_comes b || rest)

abbrev pub else_ifs_come : List ElseIf → Bool → Bool
else_ifs_come [] rest = rest
else_ifs_come (e ∷ es) rest = else_if_comes e (else_ifs_come es rest)
