use Rattle.std.proofs.Common.{◌≡◌, drop}
use Rattle.vale_lower_expr.specs.Jumps.{jumps_set}
use Rattle.vale_lower_expr.proofs.code_buffer.CodeBuffer.end_sides.Given as goal

abbrev pub invariant-loop-end : goal.invariant-loop-end
invariant-loop-end l = jumps_set (drop l.end-index l.ends) l.target l.self.code.items ≡ jumps_set l.ends l.target l.initial.self.code.items
