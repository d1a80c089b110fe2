use Rattle.std.proofs.Common.{map, sym, ◌∙◌}
use Rattle.std.proofs.lemmas.Result.{err_from_is_err_and}
use Rattle.vale_syntax.specs.View.{view_item}
use Rattle.vale_types.proofs.PartLaws.{if_ends, block_fails, block_ends}
use Rattle.vale_types.proofs.body.+walk.Goals as goal

pub walk_block-returns-in_err-left : goal.walk_block-returns-in_err-left
walk_block-returns-in_err-left t c =
    let p = err_from_is_err_and c.from_residual.result c.from_residual.ensures.1 in
    rw (p.1, p.2) (block_fails (map view_item c.args.items.now) c.args.block.now c.args.left c.as_slice.result.now c.in_err-left.field-0.0 c.as_slice.ensures (sym c.in_err-left.was ∙ c.walk_stmts.ensures))

pub walk_block-returns : goal.walk_block-returns
walk_block-returns t c =
    block_ends (map view_item c.args.items.now) c.args.block.now c.args.left c.in_ok-left.left c.as_slice.result.now c.walk_last.result c.as_slice.ensures (sym c.in_ok-left.was ∙ c.walk_stmts.ensures) c.walk_last.ensures

pub walk_form-returns-in_ok-left-in-If-3 : goal.walk_form-returns-in_ok-left-in-If-3
walk_form-returns-in_ok-left-in-If-3 t c =
    let itself = if_ends (map view_item c.args.items.now) c.in-If.field-0 c.in-If.condition c.in-If.block c.in-If.else_ifs c.as_slice.result.now c.in-If.otherwise c.args.left c.in_ok-left-in-If.left c.in_ok-left-in-If-2.left c.in_ok-left-in-If-3.left c.walk_else.result
    (sym c.in_ok-left-in-If.was ∙ c.walk_expr.ensures) (sym c.in_ok-left-in-If-2.was ∙ c.walk_block.ensures) c.as_slice.ensures (sym c.in_ok-left-in-If-3.was ∙ c.walk_else_ifs.ensures) c.walk_else.ensures in
    rw c.in-If.is itself
