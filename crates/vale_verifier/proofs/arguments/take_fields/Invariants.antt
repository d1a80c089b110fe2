use Rattle.std.proofs.Common.{◌≡◌, drop}
use Rattle.vale_cert.specs.Objects.{types_of}
use Rattle.vale_cert.specs.Rules.{takes_all}
use Rattle.vale_verifier.proofs.arguments.take_fields.Given as goal

-- what is left decides
abbrev pub invariant-loop-a : goal.invariant-loop-a
invariant-loop-a l =
    takes_all l.depth (types_of l.left) (drop l.a-index l.args) (record { kept = l.kept; after = l.regs }) ≡ takes_all l.depth (types_of l.fields) l.args (record { kept = l.initial.kept; after = l.initial.regs })
