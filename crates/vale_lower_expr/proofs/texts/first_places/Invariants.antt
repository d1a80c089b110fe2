use Rattle.std.proofs.Common.{◌≡◌, ℕ, List, ◌+◌, drop}
use Rattle.std.specs.Borrow.{Bor}
use Rattle.vale_lowering.specs.Scopes.{number_of_text}
use Rattle.vale_lower_expr.specs.Numbered.{text_place, or_count}
use Rattle.vale_lower_expr.proofs.texts.first_places.Given as goal

-- the number so far, and else the number among those that are left
abbrev pub invariant-loop-at : goal.invariant-loop-at
invariant-loop-at l = (q : Bor (List ℕ)) → or_count (text_place l.places q.now) (l.at + number_of_text q.now (drop l.at l.all)) ≡ number_of_text q.now l.all
