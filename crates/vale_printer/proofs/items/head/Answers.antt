use Rattle.vale_printer.proofs.ListLaws.{head_adds}
use Rattle.vale_printer.proofs.items.head.Goals as goal

pub returns : goal.returns
returns c =
    head_adds c.args.names.now c.args.x.now.is_pure c.args.x.now.name c.args.x.now.params c.as_slice.result.now c.args.x.now.result c.args.text.now.items c.result_type.result _ _ _ _ _ _ _
    c.as_slice.ensures c.in_ok-purity.ensures c.in_ok-word_gap.ensures c.in_ok-named.ensures c.in_ok-sign.ensures c.in_ok-param_list.ensures c.in_ok-sign-2.ensures c.result_type.ensures
