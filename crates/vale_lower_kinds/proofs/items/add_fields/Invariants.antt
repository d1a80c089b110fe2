use Rattle.std.proofs.Common.{◌≡◌, map, drop}
use Rattle.std.specs.Prelude.{flat_map}
use Rattle.vale_syntax.specs.View.{view_field}
use Rattle.vale_rules_spec.specs.Types.{type_of}
use Rattle.vale_rules_spec.specs.Declarations.{field_type}
use Rattle.vale_model.specs.Kinds.{arrays_in}
use Rattle.vale_lower_kinds.specs.Added.{added}
use Rattle.vale_lower_kinds.specs.Held.{kinds_in}
use Rattle.vale_lower_kinds.proofs.items.add_fields.Given as goal

-- the kinds so far, with those of what is left
abbrev pub invariant-loop-field : goal.invariant-loop-field
invariant-loop-field l = added (kinds_in l.kinds) (flat_map (λ f. arrays_in (type_of (field_type f))) (map view_field (drop l.field-index l.fields))) ≡ added (kinds_in l.initial.kinds) (flat_map (λ f. arrays_in (type_of (field_type f))) (map view_field (l.fields)))
