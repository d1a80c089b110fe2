use Rattle.std.proofs.Common.{◌≡◌, drop}
use Rattle.std.specs.Prelude.{max}
use Rattle.vale_lowering.specs.Lowered.{registers_in}
use Rattle.vale_lower_expr.proofs.registers.registers_in.Given as goal

abbrev pub invariant-loop-instr : goal.invariant-loop-instr
invariant-loop-instr l = max l.room (registers_in (drop l.instr-index l.code)) ≡ registers_in l.code
