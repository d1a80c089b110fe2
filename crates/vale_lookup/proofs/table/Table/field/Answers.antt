use Rattle.std.proofs.Common.{refl, ◌∙◌, None, Some}
use Rattle.vale_lookup.specs.Table.{items_of}
use Rattle.vale_lookup.proofs.IndexLaws.{field_there}
use Rattle.vale_lookup.proofs.table.Table.field.Goals as goal

pub returns-in-None : goal.returns-in-None
returns-in-None c = field_there (items_of c.args.self.now) c.args.of.0 c.args.name.0 None None (c.in-None.ensures ∙ c.args.self.now.has_structs c.args.of.0) refl

pub returns-in-Some : goal.returns-in-Some
returns-in-Some c = field_there (items_of c.args.self.now) c.args.of.0 c.args.name.0 (Some c.in-Some.at) _ (c.in-Some.ensures ∙ c.args.self.now.has_structs c.args.of.0) c.field_at.ensures
