use Rattle.std.proofs.Common.{◌≡◌, ℕ, ◌<◌, ◌≤◌, length}
use Rattle.vale_registers.specs.Texts.{text_at}
use Rattle.vale_heap.specs.HeapState.{OfHand}
use Rattle.vale_object_cells.specs.Cells.{cells_from}
use Rattle.vale_object_steps.specs.Lent.{StillLent}
use Rattle.vale_object_steps.specs.Views.{View}
use Rattle.vale_object_turn.specs.Steps.{Scene, config}
use Rattle.vale_object_stretch.specs.Stretch.{IsUnderWay, Led}
use Rattle.vale_object_stretch.proofs.Stretching.{measure}
use Rattle.vale_object_stretch.proofs.stretch.go.Given as goal

-- from wherever the stretch began, steps led to here, and the run is sound from here on
abbrev pub invariant-turns : goal.invariant-turns
invariant-turns g l = record {
  leads : (s : Scene) (v : View) → IsUnderWay l.code l.function (g.L.Lender.out l.fn.lender) (g.L.Lender.floors l.fn.lender) s v l.fn.heap (cells_from l.base l.fn.texts l.fn.registers) l.fn.place l.fn.left
      → (d : Led l.code s v (config s v l.fn.place (cells_from l.base l.fn.texts l.fn.registers)) l.heap (cells_from l.base l.texts l.registers) l.place l.left)
      × IsUnderWay l.code l.function (g.L.Lender.out l.lender) (g.L.Lender.floors l.lender) s d.view l.heap (cells_from l.base l.texts l.registers) l.place l.left;
  lent : StillLent l.fn.heap l.heap (g.L.Lender.frames l.fn.lender) (g.L.Lender.frames l.lender) (g.L.Lender.out l.fn.lender) (g.L.Lender.out l.lender) (g.L.Lender.floors l.fn.lender) (g.L.Lender.floors l.lender);
  of_hand : OfHand l.fn.heap (g.L.Lender.hand l.fn.lender) → OfHand l.heap (g.L.Lender.hand l.lender);
  others : (i : ℕ) → i < l.base → text_at l.texts i ≡ text_at l.fn.texts i;
  ticks : l.left ≤ l.fn.left;
  count : length l.registers ≡ length l.fn.registers;
}

abbrev pub decreases-turns : goal.decreases-turns
decreases-turns g l = measure l.code l.function l.place l.left
