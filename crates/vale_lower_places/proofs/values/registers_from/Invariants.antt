use Rattle.std.proofs.Common.{◌≡◌, ◌+◌}
use Rattle.vale_lowering.specs.Instructions.{registers_from}
use Rattle.vale_lower_places.proofs.values.registers_from.Given as goal

-- those so far, and the next one
abbrev pub invariant-loop-at : goal.invariant-loop-at
invariant-loop-at l = record {
  so_far : l.registers.items ≡ registers_from l.h l.at;
  next : l.next ≡ l.h + l.at;
}
