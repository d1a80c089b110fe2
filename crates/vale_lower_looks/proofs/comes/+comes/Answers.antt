use Rattle.std.proofs.Common.{◌<◌, ◌∙◌, length, arith}
use Rattle.vale_lower_looks.proofs.ComeLaws.{comes_back, by_if}
use Rattle.vale_lower_looks.proofs.comes.+comes.Goals as goal

pub else_ifs_come-loop-back-preserved : goal.else_ifs_come-loop-back-preserved
else_ifs_come-loop-back-preserved t c =
    let there : c.loop-back.back < length c.as_slice-slice.result.now = omega arith in
    comes_back c.as_slice-slice.result.now c.loop-back.back c.index-slice-at.result _ _ there c.index-slice-at.is c.else_if_comes-comes.ensures
    ∙ c.loop-back.invariant

pub form_comes-returns-in-If : goal.form_comes-returns-in-If
form_comes-returns-in-If t c =
    by_if c.args.form.now _ _ _ _ _ c.branch_comes.result _ _ _ _ c.in-If.is c.else_comes.ensures c.else_ifs_come-rest.ensures c.block_comes-inside.ensures c.expr_comes.ensures c.branch_comes.ensures
