use Rattle.std.proofs.Common.{sym, ◌∙◌}
use Rattle.vale_seen.proofs.TakeLaws.{if_ends}
use Rattle.vale_seen.proofs.taking.+takes.Goals as goal

pub form_takes-returns-else-in_else_ifs : goal.form_takes-returns-else-in_else_ifs
form_takes-returns-else-in_else_ifs t c =
    let itself = if_ends c.args.local.0 c.in-If.field-0 c.in-If.condition c.in-If.block c.in-If.else_ifs c.as_slice.result.now c.in-If.otherwise c.else_takes-in_else.result
    c.as_slice.ensures (sym c.if-in_condition.false ∙ c.takes-in_condition.ensures) (sym c.if-in_block.false ∙ c.block_takes-in_block.ensures) (sym c.if-in_else_ifs.false ∙ c.else_ifs_take-in_else_ifs.ensures) c.else_takes-in_else.ensures in
    rw c.in-If.is itself
