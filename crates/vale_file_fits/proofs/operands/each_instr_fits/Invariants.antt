use Rattle.std.proofs.Common.{take}
use Rattle.std.specs.List.{AllByRecursion}
use Rattle.vale_file_fits.specs.Fits.{InstrIsFit}
use Rattle.vale_file_fits.proofs.operands.each_instr_fits.Given as goal

abbrev pub invariant-loop-instr : goal.invariant-loop-instr
invariant-loop-instr l = AllByRecursion InstrIsFit (take l.instr-index l.instrs)
