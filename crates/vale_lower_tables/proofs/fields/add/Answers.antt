use Rattle.vale_syntax.specs.View.{view_field}
use Rattle.vale_lower_tables.specs.Kept.{fields_at, place_at}
use Rattle.vale_lower_tables.proofs.FieldLaws.{placed_next}
use Rattle.vale_lower_tables.proofs.fields.add.Goals as goal

pub returns-clause-placed : goal.returns-clause-placed
returns-clause-placed c = λ s n.
    placed_next (fields_at c.args.listed.now) (view_field c.args.field.now) c.args.of s n c.count-at.result (place_at c.args.placed.now s n) (place_at c.put.new.self s n) (fields_at c.push.new.self s)
    c.count-at.ensures (c.requires s n) (c.in_ok-put.ensures s n) (c.in_ok-push.ensures s)
