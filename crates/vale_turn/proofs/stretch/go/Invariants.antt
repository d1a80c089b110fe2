use Rattle.std.proofs.Common.{◌≡◌, ◌≤◌, length}
use Rattle.vale_code.specs.Fuel.{fuel}
use Rattle.vale_turn.specs.View.{IsSafe, Leads, Scene, config}
use Rattle.vale_turn.proofs.Stretching.{bare}
use Rattle.vale_turn.proofs.stretch.go.Given as goal

-- so many steps lead here, and the run is safe from here on
abbrev pub invariant-turns : goal.invariant-turns
invariant-turns l = record {
  safe : (s : Scene) × (l.left ≤ s.given) × IsSafe l.code (config l.function s l.place l.cells l.left);
  leads : (s : Scene) → l.fn.left ≤ s.given → Leads l.code (config l.function s l.fn.place l.fn.cells l.fn.left) (config l.function s l.place l.cells l.left);
  ticks : l.left ≤ l.fn.left;
  count : length l.cells ≡ length l.fn.cells;
}

abbrev pub decreases-turns : goal.decreases-turns
decreases-turns l = fuel l.code (config l.function (bare l.left) l.place l.cells l.left)
