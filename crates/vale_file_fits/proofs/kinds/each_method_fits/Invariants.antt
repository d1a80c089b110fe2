use Rattle.std.proofs.Common.{take}
use Rattle.std.specs.List.{AllByRecursion}
use Rattle.vale_file_fits.specs.Fits.{MethodIsFit}
use Rattle.vale_file_fits.proofs.kinds.each_method_fits.Given as goal

abbrev pub invariant-loop-part : goal.invariant-loop-part
invariant-loop-part l = AllByRecursion MethodIsFit (take l.part-index l.parts)
