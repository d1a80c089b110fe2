use Rattle.std.proofs.Common.{◌≡◌, [], drop, take}
use Rattle.vale_cert.specs.Shape.{impls_fault}
use Rattle.vale_shape.specs.Known.{Knows}
use Rattle.vale_shape.proofs.first.impls_fault.Given as goal

-- those before are lawful, and known
abbrev pub invariant-loop-n : goal.invariant-loop-n
invariant-loop-n l = record {
  known : Knows l.known (take l.n l.code.impls);
  rest : impls_fault l.code l.n (take l.n l.code.impls) (drop l.n l.code.impls) ≡ impls_fault l.code 0 [] l.code.impls;
}
