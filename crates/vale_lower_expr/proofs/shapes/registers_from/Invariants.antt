use Rattle.std.proofs.Common.{◌≡◌, ◌+◌}
use Rattle.vale_lowering.specs.Instructions.{registers_from}
use Rattle.vale_lower_expr.proofs.shapes.registers_from.Given as goal

abbrev pub invariant-loop-at : goal.invariant-loop-at
invariant-loop-at l = record { next : l.next ≡ l.h + l.at; registers : l.registers.items ≡ registers_from l.h l.at }
