use Rattle.vale_object_flow.proofs.Leaving.{leaves_void}
use Rattle.vale_object_flow.proofs.control.Control.leave_void.Goals as goal

pub returns-clause-step : goal.returns-clause-step
returns-clause-step c = λ code last heap v left runs right.
    leaves_void code last v heap c.args.self.now left c.requires.base c.requires.end runs c.rejoin-came.result c.rejoin-came.new.below c.rejoin-came.new.top c.cut.new.self c.rejoin-came.ensures c.cut.ensures
