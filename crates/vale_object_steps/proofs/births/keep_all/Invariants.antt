use Rattle.std.proofs.Common.{◌≡◌, [], drop, length}
use Rattle.vale_object_cells.specs.Cells.{cells_from}
use Rattle.vale_object_steps.specs.Keeping.{keep_from}
use Rattle.vale_object_steps.proofs.births.keep_all.Given as goal

-- what is left is kept behind what was
abbrev pub invariant-loop-at : goal.invariant-loop-at
invariant-loop-at l = record {
  kept : keep_from [] l.args (cells_from l.base l.texts l.fn.registers) ≡ keep_from l.cells.items (drop l.at l.args) (cells_from l.base l.texts l.registers);
  size : length l.registers ≡ length l.fn.registers;
}
