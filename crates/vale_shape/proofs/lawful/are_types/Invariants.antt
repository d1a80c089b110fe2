use Rattle.std.proofs.Common.{◌≡◌, drop}
use Rattle.std.specs.List.{list_all}
use Rattle.vale_cert.specs.Types.{marked, is_type}
use Rattle.vale_shape.proofs.lawful.are_types.Given as goal

-- what is left decides
abbrev pub invariant-loop-ty : goal.invariant-loop-ty
invariant-loop-ty l = list_all (is_type l.code (marked l.marks)) (drop l.ty-index l.types) ≡ list_all (is_type l.code (marked l.marks)) l.types
