use Rattle.std.proofs.Common.{arith}
use Rattle.vale_object_drops.proofs.Beginning.{can_end, destroys_by_death, destroys_by_entering, destroys_cut, destroys_trap, destructor_room, destructor_there}
use Rattle.vale_object_drops.proofs.begin.destroy_owner.Goals as goal

pub begin-requires-clause-lives : goal.begin-requires-clause-lives
begin-requires-clause-lives c = can_end c.args.code.now c.args.depth c.args.heap.now c.args.control.now c.args.left.now c.args.place c.args.at c.requires.right

pub enter_destructor-requires-clause-there : goal.enter_destructor-requires-clause-there
enter_destructor-requires-clause-there c =
    destructor_there c.args.code.now c.args.depth c.args.heap.now c.args.control.now c.args.left.now c.args.place c.args.at c.in-Enters.function c.begin.new.heap c.begin.new.left c.requires.right c.in-Enters.ensures.step

pub enter_destructor-requires-clause-room : goal.enter_destructor-requires-clause-room
enter_destructor-requires-clause-room c =
    destructor_room c.args.code.now c.args.depth c.args.heap.now c.args.control.now c.args.left.now c.args.place c.args.at c.in-Enters.function c.begin.new.heap c.begin.new.left c.requires.destructors c.requires.right c.in-Enters.ensures.step

pub returns-in-Ok-clause-step : goal.returns-in-Ok-clause-step
returns-in-Ok-clause-step c =
    destroys_by_entering c.args.code.now c.args.depth c.args.heap.now c.args.control.now c.args.left.now c.args.place c.args.at c.in-Enters.function c.begin.new.heap c.enter_destructor.new.control c.begin.new.left c.in-Ok.ensures c.requires.end c.requires.destructors c.in-Enters.ensures.step

pub returns-in-Ok-leave_over-clause-step : goal.returns-in-Ok-leave_over-clause-step
returns-in-Ok-leave_over-clause-step c =
    destroys_by_death c.args.code.now c.args.depth c.args.heap.now c.args.control.now c.args.left.now c.args.place c.args.at c.in-Dies.body c.begin.new.heap c.leave_over.new.self c.begin.new.left c.in-Dies.ensures.step c.in-Ok-leave_over.ensures

pub returns-in-Trap-clause-step : goal.returns-in-Trap-clause-step
returns-in-Trap-clause-step c =
    destroys_trap c.args.code.now c.args.depth c.args.heap.now c.args.control.now c.args.left.now c.args.place c.args.at c.in-Trap.kind c.begin.new.heap c.args.control.now c.begin.new.left c.in-Trap.ensures.step

pub returns-in-Cut-clause-step : goal.returns-in-Cut-clause-step
returns-in-Cut-clause-step c =
    destroys_cut c.args.code.now c.args.depth c.args.heap.now c.args.control.now c.args.left.now c.args.place c.args.at c.begin.new.heap c.args.control.now c.begin.new.left c.in-Cut.ensures.step

pub returns-in-Ok-clause-end : goal.returns-in-Ok-clause-end
returns-in-Ok-clause-end c = let e = c.in-Ok.ensures in omega (arith, e.end, e.many)
