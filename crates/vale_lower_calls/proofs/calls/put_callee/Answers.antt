use Rattle.std.proofs.Common.{◌≡◌, Bool, map, sym, subst}
use Rattle.std.proofs.lemmas.Result.{on_ok_weaker}
use Rattle.vale_rules_spec.specs.Types as y
use Rattle.vale_rules_spec.specs.Typed as t
use Rattle.vale_core.specs.View.{view_callee}
use Rattle.vale_lowering_objects.specs.Lowered.{callee_code}
use Rattle.vale_lower_flow.specs.Flow.{going, put}
use Rattle.vale_lower_flow.specs.Kept.{view_gives}
use Rattle.vale_lower_tables.specs.Surroundings.{view_around}
use Rattle.vale_lower_calls.proofs.calls.put_callee.Goals as goal

pub returns-in-Function : goal.returns-in-Function
returns-in-Function c =
    on_ok_weaker c.put_call.result
    (λ (holds : (is_pure : Bool) (x : y.Ty) → going c.put_call.new.flow ≡ put (callee_code (view_around c.args.around.now) (view_gives c.args.call.gives) c.args.call.name (t.function is_pure) x (map view_gives c.args.call.values.now) c.args.call.first) (going c.args.flow.now)). λ x e.
    subst (λ f. going c.put_call.new.flow ≡ put (callee_code (view_around c.args.around.now) (view_gives c.args.call.gives) c.args.call.name (view_callee f) x (map view_gives c.args.call.values.now) c.args.call.first) (going c.args.flow.now)) (sym c.in-Function.is) (holds c.in-Function.field-0 x))
    c.put_call.ensures
