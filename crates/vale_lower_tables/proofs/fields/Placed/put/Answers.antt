use Rattle.std.proofs.Common.{sym, ◌∙◌}
use Rattle.vale_lower_tables.specs.Kept.{place_at}
use Rattle.vale_lower_tables.proofs.FieldLaws.{put_first}
use Rattle.vale_lower_tables.proofs.fields.Placed.put.Goals as goal

pub returns-in_ok-insert : goal.returns-in_ok-insert
returns-in_ok-insert c = λ s n.
    put_first (place_at c.args.self.now) c.args.of s c.args.name.0 n c.args.at _
    (sym c.contains_key.ensures ∙ c.if-not-contains_key.true) (c.in_ok-insert.ensures.updates.0 (s, n))
