use Rattle.std.proofs.Common.{◌≡◌, drop, length, replicate}
use Rattle.vale_cert.specs.Rules.{takes_all}
use Rattle.vale_verifier.proofs.arguments.take_items.Given as goal

-- what is left decides
abbrev pub invariant-loop-a : goal.invariant-loop-a
invariant-loop-a l =
    takes_all l.depth (replicate (length (drop l.a-index l.args)) l.item) (drop l.a-index l.args) (record { kept = l.kept; after = l.regs })
    ≡ takes_all l.depth (replicate (length l.args) l.item) l.args (record { kept = l.initial.kept; after = l.initial.regs })
