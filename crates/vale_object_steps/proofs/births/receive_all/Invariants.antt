use Rattle.std.proofs.Common.{◌≡◌, ◌+◌, ◌<◌, ℕ, drop, length}
use Rattle.vale_registers.specs.Texts.{text_at}
use Rattle.vale_object_cells.specs.Cells.{cells_from}
use Rattle.vale_object_steps.specs.Keeping.{fill_from}
use Rattle.vale_object_steps.proofs.births.receive_all.Given as goal

-- the other registers get what is left
abbrev pub invariant-loop-cell : goal.invariant-loop-cell
invariant-loop-cell l = record {
  filled : fill_from l.to l.initial.cell-iterator.rest.items (cells_from l.base l.fn.texts l.fn.registers) ≡ fill_from (drop l.at l.to) l.cell-iterator.rest.items (cells_from l.base l.texts l.registers);
  many : l.at + length l.cell-iterator.rest.items ≡ length l.to;
  others : (i : ℕ) → i < l.base → text_at l.texts i ≡ text_at l.fn.texts i;
  size : length l.registers ≡ length l.fn.registers;
}
