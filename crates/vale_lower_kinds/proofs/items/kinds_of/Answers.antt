use Rattle.std.proofs.Common.{◌∙◌, map}
use Rattle.vale_core.specs.View.{view_item}
use Rattle.vale_lower_kinds.proofs.ItemLaws.{kinds_by_parts}
use Rattle.vale_lower_kinds.proofs.items.kinds_of.Goals as goal

pub returns : goal.returns
returns c = kinds_by_parts (map view_item c.args.items.now) _ _ _ (c.of-kinds.ensures ∙ c.in_ok-among.ensures) c.in_ok-add_all_declared.ensures c.in_ok-add_all_made.ensures
