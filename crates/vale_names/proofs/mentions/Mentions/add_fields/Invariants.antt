use Rattle.std.proofs.Common.{◌≡◌, ℕ, ◌||◌, map, drop}
use Rattle.vale_syntax.specs.View.{view_field}
use Rattle.vale_names.specs.Isos.{is_edge, field_edges}
use Rattle.vale_names.specs.Mentions.{mentions}
use Rattle.vale_names.proofs.mentions.Mentions.add_fields.Given as goal

-- with those of the fields that are left they are those of all
abbrev pub invariant-loop-field : goal.invariant-loop-field
invariant-loop-field l = (m : ℕ) → (n : ℕ) → (mentions l.self m n || is_edge (field_edges l.source (map view_field (drop l.field-index l.fields))) m n) ≡ (mentions l.fn.self m n || is_edge (field_edges l.source (map view_field l.fields)) m n)
