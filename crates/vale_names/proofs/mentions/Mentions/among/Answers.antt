use Rattle.std.proofs.Common.{map}
use Rattle.vale_syntax.specs.View.{view_item}
use Rattle.vale_rules_spec.specs.Declarations.{leads}
use Rattle.vale_names.specs.Isos.{is_edge}
use Rattle.vale_names.specs.Mentions.{mentions}
use Rattle.vale_names.proofs.EdgeLaws.{item_on}
use Rattle.vale_names.proofs.mentions.Mentions.among.Goals as goal

pub loop-item-preserved : goal.loop-item-preserved
loop-item-preserved c = λ m n.
    let items = c.args.items.now in
    item_on items c.loop-item.item-index c.item-item.result m n (mentions c.loop-item.found m n) (mentions c.add_item.new.self m n) (is_edge (leads (map view_item items)) m n)
    c.loop-item-test.true c.item-item.is (c.in_ok-add_item.ensures m n) (c.loop-item.invariant m n)
