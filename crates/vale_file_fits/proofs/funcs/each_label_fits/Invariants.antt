use Rattle.std.proofs.Common.{take}
use Rattle.std.specs.List.{AllByRecursion}
use Rattle.vale_file_fits.specs.Fits.{LabelIsFit}
use Rattle.vale_file_fits.proofs.funcs.each_label_fits.Given as goal

abbrev pub invariant-loop-part : goal.invariant-loop-part
invariant-loop-part l = AllByRecursion LabelIsFit (take l.part-index l.parts)
