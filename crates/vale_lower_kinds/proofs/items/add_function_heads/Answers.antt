use Rattle.std.proofs.Common.{map, refl}
use Rattle.std.specs.Prelude.{flat_map}
use Rattle.vale_core.specs.View.{view_function}
use Rattle.vale_model.specs.Kinds.{head_arrays, head_of}
use Rattle.vale_lower_kinds.specs.Held.{kinds_in}
use Rattle.vale_lower_kinds.proofs.AddedLaws.{next}
use Rattle.vale_lower_kinds.proofs.items.add_function_heads.Goals as goal

pub loop-function-preserved : goal.loop-function-preserved
loop-function-preserved c =
    next (λ z. flat_map (λ f. head_arrays (head_of f)) (map view_function z)) (λ z. head_arrays (head_of (view_function z))) (λ x xs. refl) c.args.functions.now c.loop-function.function-index c.function-item.result (kinds_in c.loop-function.kinds) (kinds_in c.add_head.new.kinds) _ c.loop-function-test.true c.function-item.is c.in_ok-add_head.ensures c.loop-function.invariant
