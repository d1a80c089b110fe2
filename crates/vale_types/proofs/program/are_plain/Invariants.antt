use Rattle.std.proofs.Common.{◌≡◌, map, drop}
use Rattle.std.specs.List.{list_all}
use Rattle.vale_syntax.specs.View.{view_item}
use Rattle.vale_types.specs.Plain.{is_plain}
use Rattle.vale_types.proofs.program.are_plain.Given as goal

-- the items that are left decide
abbrev pub invariant-loop-item : goal.invariant-loop-item
invariant-loop-item l = list_all is_plain (map view_item (drop l.item-index l.items)) ≡ list_all is_plain (map view_item l.items)
