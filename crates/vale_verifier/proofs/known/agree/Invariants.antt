use Rattle.std.proofs.Common.{◌≡◌, drop}
use Rattle.vale_cert.specs.Known.{agree}
use Rattle.vale_verifier.proofs.known.agree.Given as goal

-- what is left decides
abbrev pub invariant-loop-one : goal.invariant-loop-one
invariant-loop-one l = agree (drop l.one-index l.stated) l.left ≡ agree l.stated l.regs
