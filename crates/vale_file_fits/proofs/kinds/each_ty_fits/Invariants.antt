use Rattle.std.proofs.Common.{take}
use Rattle.std.specs.List.{AllByRecursion}
use Rattle.vale_file_spec.specs.Types.{ty}
use Rattle.vale_file_fits.proofs.kinds.each_ty_fits.Given as goal

abbrev pub invariant-loop-part : goal.invariant-loop-part
invariant-loop-part l = AllByRecursion ty.Fits (take l.part-index l.parts)
