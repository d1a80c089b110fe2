use Rattle.std.proofs.Common.{◌∙◌}
use Rattle.vale_lower_looks.proofs.ChangeLaws.{by_block_then, by_block_else, by_if}
use Rattle.vale_lower_looks.proofs.changes.+changes.Goals as goal

pub block_changes-returns-then-stmts_change : goal.block_changes-returns-then-stmts_change
block_changes-returns-then-stmts_change t c =
    c.if-stmts_change.true ∙ by_block_then c.args.local.0 c.args.block.now c.as_slice.result.now c.stmts_change.result c.as_slice.ensures c.stmts_change.ensures c.if-stmts_change.true

pub block_changes-returns-else-stmts_change : goal.block_changes-returns-else-stmts_change
block_changes-returns-else-stmts_change t c =
    by_block_else c.args.local.0 c.args.block.now c.as_slice.result.now c.stmts_change.result _ c.as_slice.ensures c.stmts_change.ensures c.if-stmts_change.false c.last_changes.ensures

pub form_changes-returns-in-If : goal.form_changes-returns-in-If
form_changes-returns-in-If t c =
    by_if c.args.local.0 c.args.form.now _ _ _ _ _ _ _ _ _ c.branch_changes.result c.in-If.is c.expr_changes.ensures c.block_changes.ensures c.else_ifs_change.ensures c.else_changes.ensures c.branch_changes.ensures
