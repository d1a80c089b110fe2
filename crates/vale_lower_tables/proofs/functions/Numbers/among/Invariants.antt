use Rattle.std.proofs.Common.{◌≡◌, ℕ, map, drop}
use Rattle.vale_core.specs.View.{view_function}
use Rattle.vale_lower_expr.specs.Found.{or_else}
use Rattle.vale_lower_tables.specs.Kept.{number_at, first_place}
use Rattle.vale_lower_tables.proofs.functions.Numbers.among.Given as goal

-- the functions so far, and after them those that are left
abbrev pub invariant-loop-at : goal.invariant-loop-at
invariant-loop-at l = (n : ℕ) → or_else (number_at l.table n) (first_place l.at n (map (λ g. view_function g.now) (drop l.at l.functions))) ≡ first_place 0 n (map (λ g. view_function g.now) l.functions)
