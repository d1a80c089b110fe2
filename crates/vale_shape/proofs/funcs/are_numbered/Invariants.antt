use Rattle.std.proofs.Common.{◌≡◌, drop}
use Rattle.std.specs.List.{list_all}
use Rattle.vale_cert.specs.Numbers.{numbers}
use Rattle.vale_shape.proofs.funcs.are_numbered.Given as goal

-- what is left decides
abbrev pub invariant-loop-instr : goal.invariant-loop-instr
invariant-loop-instr l = list_all (numbers l.code l.registers) (drop l.instr-index l.body) ≡ list_all (numbers l.code l.registers) l.body
