use Rattle.std.proofs.Common.{◌≡◌, drop}
use Rattle.vale_cert.specs.Shape.{implements_each}
use Rattle.vale_shape.proofs.shape.implements_each.Given as goal

-- what is left decides
abbrev pub invariant-loop-method : goal.invariant-loop-method
invariant-loop-method l = implements_each l.funcs l.item (drop l.method-index l.methods) l.left ≡ implements_each l.funcs l.item l.methods l.item.funcs
