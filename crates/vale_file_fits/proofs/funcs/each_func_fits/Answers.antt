use Rattle.vale_file_fits.proofs.ListFits.{beside_more}
use Rattle.vale_file_fits.specs.Fits.{FuncIsFit}
use Rattle.vale_file_fits.proofs.funcs.each_func_fits.Goals as goal

pub loop-left-preserved : goal.loop-left-preserved
loop-left-preserved c each =
    c.loop-left.invariant (beside_more FuncIsFit c.loop-left.left.now c.loop-left.known.now c.func-item.result c.fact-item.result
    c.in-len1-up.len_at_least c.in-len1-up-known.len_at_least c.func-item.is c.fact-item.is c.func_fits.ensures each)
