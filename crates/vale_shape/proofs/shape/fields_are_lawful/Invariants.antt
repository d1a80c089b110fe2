use Rattle.std.proofs.Common.{◌≡◌, drop}
use Rattle.std.specs.List.{list_all}
use Rattle.vale_cert.specs.Types.{marked}
use Rattle.vale_cert.specs.Shape.{field_is_lawful}
use Rattle.vale_shape.proofs.shape.fields_are_lawful.Given as goal

-- what is left decides
abbrev pub invariant-loop-field : goal.invariant-loop-field
invariant-loop-field l = list_all (field_is_lawful l.code (marked l.marks)) (drop l.field-index l.fields) ≡ list_all (field_is_lawful l.code (marked l.marks)) l.fields
