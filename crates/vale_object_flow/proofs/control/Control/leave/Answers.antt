use Rattle.std.proofs.Common.{Some, subst, sym, take}
use Rattle.vale_object_flow.specs.Flow.{GoesOn, leave_next}
use Rattle.vale_object_flow.proofs.Leaving.{handed_over, is_value, over_destruction, over_nothing, own_within, room_under}
use Rattle.vale_object_flow.proofs.control.Control.leave.Goals as goal

pub hand-requires-clause-from : goal.hand-requires-clause-from
hand-requires-clause-from c = own_within c.args.self.now c.args.from c.requires.base c.requires.end c.requires.value

pub hand-requires-clause-room : goal.hand-requires-clause-room
hand-requires-clause-room c =
    let m = c.args.self.now in
    room_under m.top.dest m.top.base c.rejoin.new.top c.rejoin.new.below m.below c.in-Running.ensures c.requires.room

pub returns-in-Running-clause-step : goal.returns-in-Running-clause-step
returns-in-Running-clause-step c = λ code last heap v left runs right.
    let m = c.args.self.now in
    handed_over code last v heap m left c.requires.base c.requires.end runs c.args.from c.rejoin.new.top c.rejoin.new.below c.hand.new.registers.items c.hand.new.texts c.cut.new.self c.requires.value c.requires.room c.in-Running.ensures c.hand.ensures.size c.hand.ensures.handed
    c.cut.ensures right

pub returns-in-Dropping-clause-step : goal.returns-in-Dropping-clause-step
returns-in-Dropping-clause-step c = λ code last heap v left runs right.
    let m = c.args.self.now in
    let x = is_value code last v heap m left c.requires.base c.requires.end runs c.args.from right in
    subst (λ fs. GoesOn code v (leave_next code last v m (Some c.args.from)) heap fs c.cut-in-Dropping.new.self (take m.top.base m.registers.items) left) (sym c.in-Dropping.ensures.1)
    (over_destruction code last v heap m left c.requires.base c.requires.end runs (Some x.0) (leave_next code last v m (Some c.args.from)) c.cut-in-Dropping.new.self c.in-Dropping.ensures.0 c.cut-in-Dropping.ensures x.2)

pub returns-in-Done-clause-step : goal.returns-in-Done-clause-step
returns-in-Done-clause-step c = λ code last heap v left runs right.
    let m = c.args.self.now in
    let x = is_value code last v heap m left c.requires.base c.requires.end runs c.args.from right in
    over_nothing code last v heap m left c.requires.base c.requires.end runs (Some x.0) (leave_next code last v m (Some c.args.from)) c.in-Done.ensures x.2
