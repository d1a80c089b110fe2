use Rattle.std.proofs.Common.{arith}
use Rattle.vale_object_numbers.proofs.JumpLaws.{condition_there, goes_by_jump, goes_through, jumps, ticks_on, ticks_out}
use Rattle.vale_object_numbers.proofs.jumps.obey_jump.Goals as goal

pub truth_at-requires : goal.truth_at-requires
truth_at-requires c = condition_there c.args.body.now c.args.registers.now c.args.place.now c.args.left.now c.args.instr.now c.in-Unless.condition c.in-Unless.target c.in-Unless.is c.requires.right

pub returns-in-Jump-clause-step : goal.returns-in-Jump-clause-step
returns-in-Jump-clause-step c = jumps c.args.body.now c.args.registers.now c.args.place.now c.args.left.now c.args.instr.now c.in-Jump.target c.leap.result c.leap.new.place c.leap.new.left c.in-Jump.is (c.leap.ensures.step c.args.registers.now)

pub returns-then-truth_at-clause-step : goal.returns-then-truth_at-clause-step
returns-then-truth_at-clause-step c = goes_through c.args.body.now c.args.registers.now c.args.place.now c.args.left.now c.args.instr.now c.in-Unless.condition c.in-Unless.target c.in-Unless.is c.truth_at.result c.if-truth_at.true c.truth_at.ensures

pub returns-else-truth_at-clause-step : goal.returns-else-truth_at-clause-step
returns-else-truth_at-clause-step c =
    goes_by_jump c.args.body.now c.args.registers.now c.args.place.now c.args.left.now c.args.instr.now c.in-Unless.condition c.in-Unless.target c.in-Unless.is c.truth_at.result c.leap-in-Unless.result c.leap-in-Unless.new.place c.leap-in-Unless.new.left c.if-truth_at.false c.truth_at.ensures
    (c.leap-in-Unless.ensures.step c.args.registers.now)

pub returns-else-left-eq0-clause-step : goal.returns-else-left-eq0-clause-step
returns-else-left-eq0-clause-step c = ticks_on c.args.body.now c.args.registers.now c.args.place.now c.args.left.now c.args.instr.now c.in-Tick.is (omega arith)

pub returns-then-left-eq0-clause-step : goal.returns-then-left-eq0-clause-step
returns-then-left-eq0-clause-step c = ticks_out c.args.body.now c.args.registers.now c.args.place.now c.args.left.now c.args.instr.now c.args.place.now c.args.left.now c.in-Tick.is c.if-left-eq0.true
