use Rattle.std.proofs.Common.{refl, ◌∙◌, None, Some}
use Rattle.vale_lookup.specs.Table.{items_of}
use Rattle.vale_lookup.proofs.IndexLaws.{method_there}
use Rattle.vale_lookup.proofs.table.Table.method.Goals as goal

pub returns-in-None : goal.returns-in-None
returns-in-None c = method_there (items_of c.args.self.now) c.args.of.0 c.args.name.0 None None (c.in-None.ensures ∙ c.args.self.now.has_interfaces c.args.of.0) refl

pub returns-in-Some : goal.returns-in-Some
returns-in-Some c = method_there (items_of c.args.self.now) c.args.of.0 c.args.name.0 (Some c.in-Some.at) _ (c.in-Some.ensures ∙ c.args.self.now.has_interfaces c.args.of.0) c.method_at.ensures
