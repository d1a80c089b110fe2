use Rattle.std.proofs.Common.{◌≡◌, map, sym, subst}
use Rattle.std.proofs.lemmas.Result.{on_ok_weaker}
use Rattle.vale_rules_spec.specs.Types as y
use Rattle.vale_syntax.specs.declared.built_in.BuiltIn.TheVariants as b
use Rattle.vale_lowering_objects.specs.Lowered.{built_in_code}
use Rattle.vale_lower_flow.specs.Flow.{going, put}
use Rattle.vale_lower_flow.specs.Kept.{view_gives}
use Rattle.vale_lower_calls.proofs.built_ins.put_built_in.Goals as goal

pub returns-in-Drop : goal.returns-in-Drop
returns-in-Drop c =
    on_ok_weaker c.put_drop.result
    (λ (holds : (x : y.Ty) → going c.put_drop.new.flow ≡ put (built_in_code b.Drop x (map view_gives c.args.call.values.now) (view_gives c.args.call.gives) c.args.call.name.at c.args.call.first) (going c.args.flow.now)). λ x e.
    subst (λ f. going c.put_drop.new.flow ≡ put (built_in_code f x (map view_gives c.args.call.values.now) (view_gives c.args.call.gives) c.args.call.name.at c.args.call.first) (going c.args.flow.now)) (sym c.in-Drop.is) (holds x))
    c.put_drop.ensures

pub returns-in-Push : goal.returns-in-Push
returns-in-Push c =
    on_ok_weaker c.put_push.result
    (λ (holds : (x : y.Ty) → going c.put_push.new.flow ≡ put (built_in_code b.Push x (map view_gives c.args.call.values.now) (view_gives c.args.call.gives) c.args.call.name.at c.args.call.first) (going c.args.flow.now)). λ x e.
    subst (λ f. going c.put_push.new.flow ≡ put (built_in_code f x (map view_gives c.args.call.values.now) (view_gives c.args.call.gives) c.args.call.name.at c.args.call.first) (going c.args.flow.now)) (sym c.in-Push.is) (holds x))
    c.put_push.ensures

pub returns-in-Pop : goal.returns-in-Pop
returns-in-Pop c =
    on_ok_weaker c.put_pop.result
    (λ (holds : (x : y.Ty) → going c.put_pop.new.flow ≡ put (built_in_code b.Pop x (map view_gives c.args.call.values.now) (view_gives c.args.call.gives) c.args.call.name.at c.args.call.first) (going c.args.flow.now)). λ x e.
    subst (λ f. going c.put_pop.new.flow ≡ put (built_in_code f x (map view_gives c.args.call.values.now) (view_gives c.args.call.gives) c.args.call.name.at c.args.call.first) (going c.args.flow.now)) (sym c.in-Pop.is) (holds x))
    c.put_pop.ensures
