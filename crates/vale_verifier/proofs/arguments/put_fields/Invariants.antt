use Rattle.std.proofs.Common.{◌≡◌, drop}
use Rattle.vale_cert.specs.Objects.{types_of}
use Rattle.vale_cert.specs.Rules.{puts_all}
use Rattle.vale_verifier.proofs.arguments.put_fields.Given as goal

-- what is left decides
abbrev pub invariant-loop-a : goal.invariant-loop-a
invariant-loop-a l =
    puts_all l.depth (types_of l.left) (drop l.a-index l.to) (record { kept = l.kept; after = l.regs }) ≡ puts_all l.depth (types_of l.fields) l.to (record { kept = l.initial.kept; after = l.initial.regs })
