use Rattle.vale_lower_tables.specs.Kept.{fields_at}
use Rattle.vale_lower_tables.proofs.FieldLaws.{item_next, items_end}
use Rattle.vale_lower_tables.proofs.fields.Fields.among.Goals as goal

pub loop-item-preserved : goal.loop-item-preserved
loop-item-preserved c = record {
  placed = c.in_ok-add_item.ensures.placed;
  left = λ s.
      item_next s c.args.items.now c.loop-item.item-index c.item-item.result (fields_at c.loop-item.listed s) (fields_at c.add_item.new.listed s) _
      c.loop-item-test.true c.item-item.is (c.in_ok-add_item.ensures.listed s) (c.loop-item.invariant.left s);
}

pub returns : goal.returns
returns c = λ s. items_end s c.args.items.now c.loop-item.item-index (fields_at c.loop-item.listed s) _ c.loop-item-test.false (c.loop-item.invariant.left s)
