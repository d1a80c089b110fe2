use Rattle.std.proofs.Common.{map, refl}
use Rattle.std.specs.Prelude.{flat_map}
use Rattle.vale_syntax.specs.View.{view_param}
use Rattle.vale_rules_spec.specs.Types.{type_of}
use Rattle.vale_rules_spec.specs.Declarations.{param_type}
use Rattle.vale_model.specs.Kinds.{arrays_in}
use Rattle.vale_lower_kinds.specs.Held.{kinds_in}
use Rattle.vale_lower_kinds.proofs.AddedLaws.{next}
use Rattle.vale_lower_kinds.proofs.items.add_params.Goals as goal

pub loop-param-preserved : goal.loop-param-preserved
loop-param-preserved c =
    next (λ z. flat_map (λ p. arrays_in (type_of (param_type p))) (map view_param z)) (λ z. arrays_in (type_of (param_type (view_param z)))) (λ x xs. refl) c.args.params.now c.loop-param.param-index c.param-item.result (kinds_in c.loop-param.kinds) (kinds_in c.add_written.new.kinds) _ c.loop-param-test.true c.param-item.is c.in_ok-add_written.ensures c.loop-param.invariant
