use Rattle.std.proofs.Common.{◌≡◌, ◌++◌, ◌-◌, length, take, replicate}
use Rattle.vale_cert.specs.Known.{params_from}
use Rattle.vale_cert.specs.declared.facts.RegFact.TheVariants.{Empty}
use Rattle.vale_verifier.proofs.known.enter.Given as goal

-- those before hold their parameters
abbrev pub invariant-loop-i : goal.invariant-loop-i
invariant-loop-i l = l.regs ≡ params_from 0 l.live (take l.i l.params) ++ replicate (length l.fn.regs - l.i) Empty
