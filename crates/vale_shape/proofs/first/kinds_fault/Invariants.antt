use Rattle.std.proofs.Common.{◌≡◌, drop}
use Rattle.vale_cert.specs.Types.{marked}
use Rattle.vale_cert.specs.Shape.{kinds_fault}
use Rattle.vale_shape.proofs.first.kinds_fault.Given as goal

-- those before are lawful
abbrev pub invariant-loop-n : goal.invariant-loop-n
invariant-loop-n l = kinds_fault l.code (marked l.marks) l.n (drop l.n l.code.kinds) ≡ kinds_fault l.code (marked l.marks) 0 l.code.kinds
