use Rattle.std.proofs.Common.{◌≡◌, drop}
use Rattle.vale_cert.specs.Rules.{passes_all}
use Rattle.vale_verifier.proofs.arguments.pass_all.Given as goal

-- what is left decides
abbrev pub invariant-loop-a : goal.invariant-loop-a
invariant-loop-a l =
    passes_all l.depth l.left (drop l.a-index l.args) (record { kept = l.kept; after = l.regs }) ≡ passes_all l.depth l.types l.args (record { kept = l.initial.kept; after = l.initial.regs })
