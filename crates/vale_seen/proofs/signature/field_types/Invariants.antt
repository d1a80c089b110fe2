use Rattle.std.proofs.Common.{◌≡◌, ◌++◌, map, drop}
use Rattle.vale_syntax.specs.View.{view_field}
use Rattle.vale_rules_spec.specs.TypeRules.{field_types}
use Rattle.vale_core.specs.View.{view_ty}
use Rattle.vale_seen.proofs.signature.field_types.Given as goal

-- with those of the fields that are left they are those of all
abbrev pub invariant-loop-field : goal.invariant-loop-field
invariant-loop-field l = (map view_ty l.types.items ++ field_types (map view_field (drop l.field-index l.fields))) ≡ field_types (map view_field l.fields)
