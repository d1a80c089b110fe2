use Rattle.std.proofs.Common.{◌≡◌, ℕ, ◌++◌, map, drop}
use Rattle.std.specs.Prelude.{flat_map}
use Rattle.vale_core.specs.View.{view_item}
use Rattle.vale_model.specs.Parts.{fields_in}
use Rattle.vale_lower_tables.specs.Kept.{fields_at, ArePlaced}
use Rattle.vale_lower_tables.proofs.fields.Fields.among.Given as goal

-- the fields so far, and those of the items that are left
abbrev pub invariant-loop-item : goal.invariant-loop-item
invariant-loop-item l = record {
  placed : ArePlaced l.listed l.placed;
  left : (s : ℕ) → fields_at l.listed s ++ flat_map (fields_in s) (map view_item (drop l.item-index l.items)) ≡ flat_map (fields_in s) (map view_item l.items);
}
