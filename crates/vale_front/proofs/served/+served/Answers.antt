use Rattle.std.proofs.Common.{◌∙◌, ap}
use Rattle.std.specs.Prelude.{◌&&◌}
use Rattle.vale_front.proofs.ServedLaws.{by_if}
use Rattle.vale_front.proofs.served.+served.Goals as goal

pub form_is_served-returns-in-If : goal.form_is_served-returns-in-If
form_is_served-returns-in-If t c =
    c.both.ensures
    ∙ ap (λ x. x && c.both-others.result) c.both-first.ensures
    ∙ ap (λ x. (c.expr_is_served.result && c.block_is_served.result) && x) c.both-others.ensures
    ∙ by_if c.args.form.now _ _ _ _ _ c.expr_is_served.result c.block_is_served.result c.else_ifs_are_served.result c.else_is_served.result c.in-If.is
    c.expr_is_served.ensures c.block_is_served.ensures (rw c.as_slice.ensures at c.else_ifs_are_served.ensures) c.else_is_served.ensures
