use Rattle.std.proofs.Common.{◌≡◌, drop}
use Rattle.std.specs.List.{list_all}
use Rattle.vale_cert.specs.Shape.{is_pure_param}
use Rattle.vale_shape.proofs.shape.are_pure_params.Given as goal

-- what is left decides
abbrev pub invariant-loop-ty : goal.invariant-loop-ty
invariant-loop-ty l = list_all is_pure_param (drop l.ty-index l.params) ≡ list_all is_pure_param l.params
