use Rattle.std.proofs.Common.{◌≡◌, drop}
use Rattle.vale_cert.specs.Types.{marked}
use Rattle.vale_cert.specs.Shape.{funcs_fault}
use Rattle.vale_shape.proofs.first.fault_among.Given as goal

-- those before are lawful
abbrev pub invariant-loop-m : goal.invariant-loop-m
invariant-loop-m l = funcs_fault l.code (marked l.marks) l.m (drop l.m l.funcs) (drop l.m l.facts) ≡ funcs_fault l.code (marked l.marks) 0 l.funcs l.facts
