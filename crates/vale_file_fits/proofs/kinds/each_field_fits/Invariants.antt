use Rattle.std.proofs.Common.{take}
use Rattle.std.specs.List.{AllByRecursion}
use Rattle.vale_file_spec.specs.File.{field}
use Rattle.vale_file_fits.proofs.kinds.each_field_fits.Given as goal

abbrev pub invariant-loop-part : goal.invariant-loop-part
invariant-loop-part l = AllByRecursion field.Fits (take l.part-index l.parts)
