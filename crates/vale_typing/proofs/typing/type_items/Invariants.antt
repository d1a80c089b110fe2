use Rattle.std.proofs.Common.{◌≡◌, ◌∷◌, drop, map}
use Rattle.vale_rules_spec.specs.Judged.{first}
use Rattle.vale_rules_spec.specs.Typing.{in_items}
use Rattle.vale_syntax.specs.View.{view_item}
use Rattle.vale_core.specs.View as c
use Rattle.vale_lookup.specs.Table.{names_of, items_of}
use Rattle.vale_typed_parts.proofs.LoopLaws.{with_parts}
use Rattle.vale_typing.proofs.typing.type_items.Given as goal

-- what is done, with what those that are left give, is what all of them give
abbrev pub invariant-loop-item : goal.invariant-loop-item
invariant-loop-item l = with_parts ◌∷◌ (map c.view_item l.done) (first (in_items (names_of l.table) (items_of l.table) (map view_item (drop l.item-index l.items)))) ≡ first (in_items (names_of l.table) (items_of l.table) (map view_item l.items))
