use Rattle.std.proofs.Common.{map, refl}
use Rattle.std.specs.Prelude.{flat_map}
use Rattle.vale_core.specs.View.{view_function}
use Rattle.vale_model.specs.Kinds.{block_arrays, body_of}
use Rattle.vale_lower_kinds.specs.Held.{kinds_in}
use Rattle.vale_lower_kinds.proofs.AddedLaws.{next}
use Rattle.vale_lower_kinds.proofs.items.add_bodies.Goals as goal

pub loop-function-preserved : goal.loop-function-preserved
loop-function-preserved c =
    next (λ z. flat_map (λ f. block_arrays (body_of f)) (map view_function z)) (λ z. block_arrays (body_of (view_function z))) (λ x xs. refl) c.args.functions.now c.loop-function.function-index c.function-item.result (kinds_in c.loop-function.kinds) (kinds_in c.add_block.new.kinds) _ c.loop-function-test.true c.function-item.is c.in_ok-add_block.ensures c.loop-function.invariant
