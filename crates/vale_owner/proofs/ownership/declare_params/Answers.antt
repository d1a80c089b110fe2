use Rattle.std.proofs.Common.{map}
use Rattle.vale_syntax.specs.View.{view_param}
use Rattle.vale_owner_flow.specs.FlowView.{declaring}
use Rattle.vale_owner.specs.Functions.{declaring_params}
use Rattle.vale_owner.proofs.FunctionLaws.{no_params, more_params}
use Rattle.vale_owner_flow.proofs.ListLaws.{list_next, list_done}
use Rattle.vale_owner.proofs.ownership.declare_params.Goals as goal

pub loop-param-preserved : goal.loop-param-preserved
loop-param-preserved c =
    list_next (λ ps f. declaring_params (map view_param ps) f) (λ p f. declaring p.name f) (λ p ps f. more_params (view_param p) (map view_param ps) f)
    c.args.params.now c.loop-param.param-index c.param-item.result c.param-item.result _ _ _ c.loop-param-test.true c.param-item.is c.in_ok-declare.ensures c.loop-param.invariant

pub returns : goal.returns
returns c = list_done (λ ps f. declaring_params (map view_param ps) f) no_params c.args.params.now c.loop-param.param-index _ _ c.loop-param-test.false c.loop-param.invariant
