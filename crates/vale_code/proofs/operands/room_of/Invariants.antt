use Rattle.std.proofs.Common.{◌≡◌, drop}
use Rattle.std.specs.Prelude.{max}
use Rattle.vale_code.specs.Operands.{room_of}
use Rattle.vale_code.proofs.operands.room_of.Given as goal

abbrev pub invariant-loop-register : goal.invariant-loop-register
invariant-loop-register l = max l.room (room_of (drop l.register-index l.registers)) ≡ room_of l.registers
