use Rattle.std.proofs.Common.{◌≡◌, ℕ, ◌++◌, [], map, drop}
use Rattle.std.specs.Prelude.{◌==◌, if◌then◌else◌}
use Rattle.vale_syntax.specs.View.{view_field}
use Rattle.vale_lower_tables.specs.Kept.{fields_at, ArePlaced}
use Rattle.vale_lower_tables.proofs.fields.add_all.Given as goal

-- the fields so far, and those that are left
abbrev pub invariant-loop-field : goal.invariant-loop-field
invariant-loop-field l = record {
  placed : ArePlaced l.listed l.placed;
  left : (s : ℕ) → fields_at l.listed s ++ (if l.of == s then map view_field (drop l.field-index l.fields) else []) ≡ fields_at l.initial.listed s ++ (if l.of == s then map view_field l.fields else []);
}
