use Rattle.std.proofs.Common.{◌≡◌, ◌++◌, map, drop}
use Rattle.std.specs.Prelude.{flat_map}
use Rattle.vale_core.specs.View.{view_function, view_item}
use Rattle.vale_model.specs.Parts.{functions_of}
use Rattle.vale_lower_tables.proofs.functions.functions_in.Given as goal

-- the functions so far, and those of the items that are left
abbrev pub invariant-loop-item : goal.invariant-loop-item
invariant-loop-item l = map (λ g. view_function g.now) l.all.items ++ flat_map functions_of (map view_item (drop l.item-index l.items)) ≡ flat_map functions_of (map view_item l.items)
