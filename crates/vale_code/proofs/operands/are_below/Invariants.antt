use Rattle.std.proofs.Common.{◌≡◌, drop, nat_lt}
use Rattle.std.specs.List.{list_all}
use Rattle.vale_code.proofs.operands.are_below.Given as goal

-- what is left decides
abbrev pub invariant-loop-register : goal.invariant-loop-register
invariant-loop-register l = list_all (λ r. nat_lt r l.count) (drop l.register-index l.registers) ≡ list_all (λ r. nat_lt r l.count) l.registers
