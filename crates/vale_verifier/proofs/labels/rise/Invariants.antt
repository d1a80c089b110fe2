use Rattle.std.proofs.Common.{◌≡◌, drop}
use Rattle.vale_cert.specs.Known.{rise_from}
use Rattle.vale_verifier.proofs.labels.rise.Given as goal

-- what is left decides
abbrev pub invariant-loop-label : goal.invariant-loop-label
invariant-loop-label l = rise_from l.last (drop l.label-index l.rest) ≡ rise_from l.initial.last l.rest
