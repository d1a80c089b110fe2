use Rattle.std.proofs.Common.{◌≡◌, drop}
use Rattle.std.specs.List.{list_all}
use Rattle.vale_cert.specs.Shape.{is_captured}
use Rattle.vale_shape.proofs.funcs.are_captured.Given as goal

-- what is left decides
abbrev pub invariant-loop-ty : goal.invariant-loop-ty
invariant-loop-ty l = list_all is_captured (drop l.ty-index l.types) ≡ list_all is_captured l.types
