use Rattle.std.proofs.Common.{take}
use Rattle.std.specs.List.{AllByRecursion}
use Rattle.vale_file_spec.specs.File.{reg}
use Rattle.vale_file_fits.proofs.funcs.each_reg_fits.Given as goal

abbrev pub invariant-loop-part : goal.invariant-loop-part
invariant-loop-part l = AllByRecursion reg.Fits (take l.part-index l.parts)
