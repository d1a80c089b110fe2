use Rattle.std.specs.Prelude.{◌==◌}
use Rattle.vale_lower_tables.specs.Kept.{fields_at}
use Rattle.vale_lower_tables.proofs.FieldLaws.{field_next}
use Rattle.vale_lower_tables.proofs.fields.add_all.Goals as goal

pub loop-field-preserved : goal.loop-field-preserved
loop-field-preserved c = record {
  placed = c.in_ok-add.ensures.placed;
  left = λ s.
      field_next (c.args.of == s) c.args.fields.now c.loop-field.field-index c.field-item.result (fields_at c.loop-field.listed s) (fields_at c.add.new.listed s) _
      c.loop-field-test.true c.field-item.is (c.in_ok-add.ensures.listed s) (c.loop-field.invariant.left s);
}
