use Rattle.vale_printer.proofs.ItemLaws.{function_adds}
use Rattle.vale_printer.proofs.items.function.Goals as goal

pub returns : goal.returns
returns c =
    function_adds c.args.names.now c.args.depth c.args.x.now c.args.text.now.items c.block.result _ _ _
    c.in_ok-head.ensures c.in_ok-gap.ensures c.block.ensures
