use Rattle.std.proofs.Common.{[], sym, subst, arith}
use Rattle.vale_machine.specs.View.{Stepped}
use Rattle.vale_machine.proofs.Running.{laid_going, right_here, room_here, same_aside, step_here}
use Rattle.vale_machine.proofs.machine.Machine.turn_aside.Goals as goal

pub fetched-instr-requires : goal.fetched-instr-requires
fetched-instr-requires c = let e = c.requires.ends [] in (e.0, e.1)

pub aside-requires-clause-base : goal.aside-requires-clause-base
aside-requires-clause-base c = omega (arith, c.requires.running.1.laid.lie.0.size)

pub aside-requires-clause-end : goal.aside-requires-clause-end
aside-requires-clause-end c = c.requires.running.1.laid.there

pub aside-requires-clause-aside : goal.aside-requires-clause-aside
aside-requires-clause-aside c = let e = c.requires.ends [] in same_aside _ e.0 c.fetched-instr.result.now e.1 c.fetched-instr.ensures.found e.2

pub aside-requires-clause-room : goal.aside-requires-clause-room
aside-requires-clause-room c =
    let u = c.requires.running.1 in
    room_here c.args.code.now c.args.self.now u.runnable u.laid.lie.0 c.fetched-instr.result.now c.fetched-instr.ensures.found

pub aside-requires-clause-right : goal.aside-requires-clause-right
aside-requires-clause-right c = record {
  taken = c.requires.running.0;
  right = right_here c.args.code.now c.requires.running.0 c.args.self.now c.fetched-instr.result.now c.fetched-instr.ensures.found c.requires.running.1.safe;
}

pub returns-clause-step : goal.returns-clause-step
returns-clause-step c = λ taken.
    subst (λ n. Stepped c.args.code.now taken c.aside.result n c.aside.new.self)
    (sym (step_here c.args.code.now taken c.args.self.now c.fetched-instr.result.now c.fetched-instr.ensures.found)) (c.aside.ensures.step taken)

pub returns-clause-laid : goal.returns-clause-laid
returns-clause-laid c = laid_going c.args.code.now c.aside.result c.args.self.now c.aside.new.self c.aside.ensures.keeps c.requires.running.1.laid
