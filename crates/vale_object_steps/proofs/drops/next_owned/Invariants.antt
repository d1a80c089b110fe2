use Rattle.std.proofs.Common.{◌≡◌}
use Rattle.std.specs.Prelude.{reverse}
use Rattle.vale_object_steps.specs.Drops.{first_owned_cell}
use Rattle.vale_object_steps.proofs.drops.next_owned.Given as goal

-- nothing that was passed has to be dropped
abbrev pub invariant-cells : goal.invariant-cells
invariant-cells l = first_owned_cell (reverse l.fn.rest.items) ≡ first_owned_cell (reverse l.rest.items)

abbrev pub decreases-cells : goal.decreases-cells
decreases-cells l = goal.left-cells l
