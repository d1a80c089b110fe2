use Rattle.std.proofs.Common.{[], sym, subst}
use Rattle.vale_machine.specs.View.{Stepped}
use Rattle.vale_machine.proofs.Running.{call_given, call_here, callable_here, not_call, same_call}
use Rattle.vale_machine.proofs.machine.Machine.enter.Goals as goal

pub fetched-requires : goal.fetched-requires
fetched-requires c = let e = c.requires.ends [] in (e.0, e.1)

pub call-requires-clause-callable : goal.call-requires-clause-callable
call-requires-clause-callable c =
    let u = c.requires.running.1 in
    callable_here c.args.code.now c.args.self.now u.runnable u.laid.lie.0 c.fetched.result.now c.fetched.ensures.found c.in-Call.to c.in-Call.func c.in-Call.args c.in-Call.at c.in-Call.is

pub call-requires-clause-given : goal.call-requires-clause-given
call-requires-clause-given c =
    let u = c.requires.running.1 in
    let w = callable_here c.args.code.now c.args.self.now u.runnable u.laid.lie.0 c.fetched.result.now c.fetched.ensures.found c.in-Call.to c.in-Call.func c.in-Call.args c.in-Call.at c.in-Call.is in
    call_given c.args.code.now c.requires.running.0 c.args.self.now c.fetched.result.now c.in-Call.to c.in-Call.func c.in-Call.args c.as_slice.result.now c.in-Call.at w.func c.fetched.ensures.found c.in-Call.is c.as_slice.ensures w.found w.plain u.safe

pub returns-clause-step : goal.returns-clause-step
returns-clause-step c = λ taken.
    subst (λ n. Stepped c.args.code.now taken c.call.result n c.call.new.self)
    (sym (call_here c.args.code.now taken c.args.self.now c.fetched.result.now c.in-Call.to c.in-Call.func c.in-Call.args c.as_slice.result.now c.in-Call.at c.fetched.ensures.found c.in-Call.is c.as_slice.ensures)) (c.call.ensures.step taken)

pub unreachable-requires : goal.unreachable-requires
unreachable-requires c =
    let e = c.requires.ends [] in
    not_call c.fetched.result.now (same_call _ e.0 c.fetched.result.now e.1 c.fetched.ensures.found e.2) c.in_default.not-Call
