use Rattle.std.proofs.Common.{◌≡◌, drop}
use Rattle.std.specs.List.{list_all}
use Rattle.vale_cert.specs.Known.{is_free}
use Rattle.vale_verifier.proofs.rules.all_are_free.Given as goal

-- what is left decides
abbrev pub invariant-loop-fact : goal.invariant-loop-fact
invariant-loop-fact l = list_all is_free (drop l.fact-index l.regs) ≡ list_all is_free l.regs
