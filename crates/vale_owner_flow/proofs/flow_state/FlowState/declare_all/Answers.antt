use Rattle.std.proofs.Common.{refl}
use Rattle.vale_owner_flow.specs.FlowView.{declaring, declaring_all}
use Rattle.vale_owner_flow.proofs.FoundLaws.{declare_none, declare_more}
use Rattle.vale_owner_flow.proofs.ListLaws.{list_next, list_done}
use Rattle.vale_owner_flow.proofs.flow_state.FlowState.declare_all.Goals as goal

pub loop-name-preserved : goal.loop-name-preserved
loop-name-preserved c = list_next declaring_all declaring declare_more c.args.names.now c.loop-name.name-index _ _ _ _ _ c.loop-name-test.true refl c.in_ok-declare.ensures c.loop-name.invariant

pub returns : goal.returns
returns c = list_done declaring_all declare_none c.args.names.now c.loop-name.name-index _ _ c.loop-name-test.false c.loop-name.invariant
