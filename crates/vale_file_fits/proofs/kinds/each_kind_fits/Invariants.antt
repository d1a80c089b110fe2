use Rattle.std.proofs.Common.{take}
use Rattle.std.specs.List.{AllByRecursion}
use Rattle.vale_file_fits.specs.Fits.{KindIsFit}
use Rattle.vale_file_fits.proofs.kinds.each_kind_fits.Given as goal

abbrev pub invariant-loop-part : goal.invariant-loop-part
invariant-loop-part l = AllByRecursion KindIsFit (take l.part-index l.parts)
