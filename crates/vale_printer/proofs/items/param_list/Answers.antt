use Rattle.vale_syntax.specs.Layout.{lay_param}
use Rattle.vale_syntax.specs.View.{view_param}
use Rattle.vale_printer.proofs.ListLaws.{commas_all}
use Rattle.vale_printer.proofs.items.param_list.Goals as goal

pub returns : goal.returns
returns c =
    commas_all (λ x. lay_param c.args.names.now (view_param x)) c.args.params.now _ _ c.args.text.now.items _ _
    c.in-len1-up.len_at_least c.first-item.is c.in_ok-param.ensures c.loop-x.invariant c.loop-x-test.false
