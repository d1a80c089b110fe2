use Rattle.std.proofs.Common.{◌≡◌, map, drop}
use Rattle.std.specs.List.{list_any}
use Rattle.vale_syntax.specs.View.{view_field}
use Rattle.vale_rules_spec.specs.Declarations.{field_type, has_iso}
use Rattle.vale_names.proofs.reach.any_iso.Given as goal

-- the fields that are left decide
abbrev pub invariant-loop-field : goal.invariant-loop-field
invariant-loop-field l = list_any (λ f. has_iso (field_type f)) (map view_field (drop l.field-index l.fields)) ≡ list_any (λ f. has_iso (field_type f)) (map view_field l.fields)
