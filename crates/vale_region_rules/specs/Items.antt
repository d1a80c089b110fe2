-- The items that are looked up.
use Rattle.std.specs.Prelude.{List, map}
use Rattle.vale_rules_spec.specs.Typed.{Item}
use Rattle.vale_core.specs.View.{view_item}
use Rattle.vale_region_rules.specs.declared.signatures.Signatures.{Signatures}

abbrev pub items_of : Signatures → List Item
items_of s = map view_item s.items.now
