use Rattle.std.proofs.Common.{◌≡◌, drop}
use Rattle.vale_owner_flow.specs.FlowView.{found, declaring_all}
use Rattle.vale_owner_flow.proofs.flow_state.FlowState.declare_all.Given as goal

-- those that are left make of what is found what all of them make
abbrev pub invariant-loop-name : goal.invariant-loop-name
invariant-loop-name l = declaring_all (drop l.name-index l.names) (found l.self) ≡ declaring_all l.names (found l.initial.self)
