use Rattle.std.proofs.Common.{◌≡◌, ◌++◌, drop, replicate}
use Rattle.vale_cert.specs.declared.facts.RegFact.TheVariants.{Empty}
use Rattle.vale_verifier.proofs.known.clear.Given as goal

-- those before are empty
abbrev pub invariant-loop-fact : goal.invariant-loop-fact
invariant-loop-fact l = l.regs ≡ replicate l.fact-index Empty ++ drop l.fact-index l.initial.regs
