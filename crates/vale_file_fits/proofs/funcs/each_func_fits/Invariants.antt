use Rattle.std.proofs.Common.{length}
use Rattle.std.specs.List.{AllByRecursion}
use Rattle.vale_file_fits.specs.Fits.{FuncIsFit}
use Rattle.vale_file_spec.specs.File.{beside}
use Rattle.vale_file_fits.proofs.funcs.each_func_fits.Given as goal

abbrev pub invariant-loop-left : goal.invariant-loop-left
invariant-loop-left l = AllByRecursion FuncIsFit (beside l.left l.known) → AllByRecursion FuncIsFit (beside l.funcs l.facts)

abbrev pub decreases-loop-left : goal.decreases-loop-left
decreases-loop-left l = length l.left
