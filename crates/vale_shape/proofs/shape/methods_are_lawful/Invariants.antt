use Rattle.std.proofs.Common.{◌≡◌, drop}
use Rattle.std.specs.List.{list_all}
use Rattle.vale_cert.specs.Types.{marked}
use Rattle.vale_cert.specs.Shape.{method_is_lawful}
use Rattle.vale_shape.proofs.shape.methods_are_lawful.Given as goal

-- what is left decides
abbrev pub invariant-loop-method : goal.invariant-loop-method
invariant-loop-method l = list_all (method_is_lawful l.code (marked l.marks) l.n) (drop l.method-index l.methods) ≡ list_all (method_is_lawful l.code (marked l.marks) l.n) l.methods
