use Rattle.std.proofs.Common.{◌≡◌, drop}
use Rattle.std.specs.List.{list_all}
use Rattle.vale_cert.specs.Small.{label_is_small}
use Rattle.vale_cert.proofs.facts.labels_are_small.Given as goal

-- what is left decides
abbrev pub invariant-loop-label : goal.invariant-loop-label
invariant-loop-label l = list_all label_is_small (drop l.label-index l.labels) ≡ list_all label_is_small l.labels
