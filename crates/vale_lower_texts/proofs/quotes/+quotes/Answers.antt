use Rattle.std.proofs.lemmas.Result.{on_ok_weaker}
use Rattle.vale_lower_texts.proofs.QuoteLaws.{by_if}
use Rattle.vale_lower_texts.proofs.quotes.+quotes.Goals as goal

pub add_form-returns-in_ok-add_else_ifs-in-If : goal.add_form-returns-in_ok-add_else_ifs-in-If
add_form-returns-in_ok-add_else_ifs-in-If t c = on_ok_weaker c.add_else.result (λ e.
    by_if c.args.form.now _ _ _ _ _ c.args.texts.now _ _ _ c.add_else.new.texts c.in-If.is c.in_ok-add_expr-in-If.ensures c.in_ok-add_block-in-If.ensures c.in_ok-add_else_ifs-in-If.ensures e) c.add_else.ensures
