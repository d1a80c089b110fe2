use Rattle.std.proofs.Common.{map, refl}
use Rattle.std.specs.Prelude.{flat_map}
use Rattle.vale_syntax.specs.View.{view_field}
use Rattle.vale_rules_spec.specs.Types.{type_of}
use Rattle.vale_rules_spec.specs.Declarations.{field_type}
use Rattle.vale_model.specs.Kinds.{arrays_in}
use Rattle.vale_lower_kinds.specs.Held.{kinds_in}
use Rattle.vale_lower_kinds.proofs.AddedLaws.{next}
use Rattle.vale_lower_kinds.proofs.items.add_fields.Goals as goal

pub loop-field-preserved : goal.loop-field-preserved
loop-field-preserved c =
    next (λ z. flat_map (λ f. arrays_in (type_of (field_type f))) (map view_field z)) (λ z. arrays_in (type_of (field_type (view_field z)))) (λ x xs. refl) c.args.fields.now c.loop-field.field-index c.field-item.result (kinds_in c.loop-field.kinds) (kinds_in c.add_written.new.kinds) _ c.loop-field-test.true c.field-item.is c.in_ok-add_written.ensures c.loop-field.invariant
