use Rattle.std.proofs.Common.{◌≡◌, map, drop}
use Rattle.vale_syntax.specs.View.{view_param}
use Rattle.vale_core.specs.View.{view_block}
use Rattle.vale_rules_spec.specs.Owned.{are_taken_apart}
use Rattle.vale_owner_flow.specs.FlowView.{found}
use Rattle.vale_owner.proofs.ownership.are_taken_apart.Given as goal

-- it is up to those that are left
abbrev pub invariant-loop-param : goal.invariant-loop-param
invariant-loop-param l = are_taken_apart (map view_param (drop l.param-index l.params)) (view_block l.body) (found l.flow_state).locals ≡ are_taken_apart (map view_param l.params) (view_block l.body) (found l.flow_state).locals
