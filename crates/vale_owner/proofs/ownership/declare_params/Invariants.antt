use Rattle.std.proofs.Common.{◌≡◌, map, drop}
use Rattle.vale_syntax.specs.View.{view_param}
use Rattle.vale_owner_flow.specs.FlowView.{found}
use Rattle.vale_owner.specs.Functions.{declaring_params}
use Rattle.vale_owner.proofs.ownership.declare_params.Given as goal

-- those that are left make of what is found what all of them make
abbrev pub invariant-loop-param : goal.invariant-loop-param
invariant-loop-param l = declaring_params (map view_param (drop l.param-index l.params)) (found l.flow_state) ≡ declaring_params (map view_param l.params) (found l.initial.flow_state)
