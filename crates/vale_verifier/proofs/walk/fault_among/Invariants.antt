use Rattle.std.proofs.Common.{◌≡◌, ◌+◌, drop, None}
use Rattle.vale_code.specs.Sizes.{instructions}
use Rattle.vale_cert.specs.Shape.{funcs_fault}
use Rattle.vale_cert.specs.Types.{reaches_isolate}
use Rattle.vale_cert.specs.Walk.{functions_fault}
use Rattle.vale_verifier.proofs.walk.fault_among.Given as goal

-- the functions from here on
abbrev pub invariant-loop-n : goal.invariant-loop-n
invariant-loop-n l = record {
  lawful : funcs_fault l.code (reaches_isolate l.code) l.n (drop l.n l.funcs) (drop l.n l.facts) ≡ None;
  base : l.base + instructions (drop l.n l.funcs) ≡ instructions l.funcs;
  rest : functions_fault l.code l.base (drop l.n l.funcs) (drop l.n l.facts) ≡ functions_fault l.code 0 l.funcs l.facts;
}
