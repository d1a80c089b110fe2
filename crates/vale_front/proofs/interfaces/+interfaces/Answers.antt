use Rattle.std.proofs.Common.{◌∙◌, ap}
use Rattle.std.specs.Prelude.{◌||◌}
use Rattle.vale_front.proofs.InterfaceLaws.{by_if}
use Rattle.vale_front.proofs.interfaces.+interfaces.Goals as goal

pub in_form-returns-in-If : goal.in_form-returns-in-If
in_form-returns-in-If t c =
    c.either-in-If.ensures
    ∙ ap (λ x. c.in_expr.result || x) (c.either.ensures ∙ ap (λ x. c.in_block.result || x) c.either-more.ensures)
    ∙ by_if c.args.form.now _ _ _ _ _ c.in_expr.result c.in_block.result c.in_else_ifs.result c.in_else.result c.in-If.is
    c.in_expr.ensures c.in_block.ensures (rw c.as_slice.ensures at c.in_else_ifs.ensures) c.in_else.ensures
