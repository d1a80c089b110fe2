use Rattle.std.proofs.Common.{◌≡◌, drop}
use Rattle.std.specs.List.{list_all}
use Rattle.vale_cert.specs.Types.{marked}
use Rattle.vale_cert.specs.Shape.{label_is_lawful}
use Rattle.vale_shape.proofs.funcs.labels_are_lawful.Given as goal

-- what is left decides
abbrev pub invariant-loop-label : goal.invariant-loop-label
invariant-loop-label l = list_all (label_is_lawful l.code (marked l.marks) l.func) (drop l.label-index l.labels) ≡ list_all (label_is_lawful l.code (marked l.marks) l.func) l.labels
