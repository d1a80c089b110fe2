use Rattle.std.proofs.Common.{◌∙◌, ap}
use Rattle.std.specs.Prelude.{◌&&◌}
use Rattle.vale_core.specs.View.{view_block}
use Rattle.vale_rules_spec.specs.Returns.{block_returns}
use Rattle.vale_core.proofs.ReturnLaws.{by_if}
use Rattle.vale_core.proofs.returned.+returned.Goals as goal

pub form_returns-returns-in-If : goal.form_returns-returns-in-If
form_returns-returns-in-If t c =
    c.both.ensures
    ∙ by_if c.args.form.now _ _ _ _ _ c.each_returns-each.result c.both-other.result c.in-If.is (rw c.as_slice.ensures at c.each_returns-each.ensures)
    (c.both-other.ensures ∙ ap (λ x. x && c.else_returns.result) c.block_returns.ensures ∙ ap (λ x. block_returns (view_block c.in-If.block) && x) c.else_returns.ensures)
