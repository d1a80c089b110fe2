use Rattle.std.proofs.Common.{◌≡◌, ℕ, map, drop}
use Rattle.vale_core.specs.View.{view_function}
use Rattle.vale_lower_expr.specs.Found.{or_else}
use Rattle.vale_lower_expr.specs.Numbered.{callable_in, callable_from}
use Rattle.vale_lower_expr.proofs.functions.first_callables.Given as goal

-- the functions so far, and after them those that are left
abbrev pub invariant-loop-at : goal.invariant-loop-at
invariant-loop-at l = (n : ℕ) → or_else (callable_in l.callables n) (callable_from l.at n (map (λ g. view_function g.now) (drop l.at l.functions))) ≡ callable_from 0 n (map (λ g. view_function g.now) l.functions)
