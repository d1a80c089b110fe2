use Rattle.std.proofs.Common.{[], sym, subst, arith}
use Rattle.vale_code.specs.Frames.{Next}
use Rattle.vale_turn.specs.declared.stop.Stop.{Stop}
use Rattle.vale_turn.specs.declared.stop.Stop.TheVariants as stop
use Rattle.vale_machine.specs.UnderWay.{EndsSo}
use Rattle.vale_machine.specs.View.{Stepped}
use Rattle.vale_machine.proofs.Keeping.{sure_keeps}
use Rattle.vale_machine.proofs.Running.{ret_at, ret_value, trap_here, void_here}
use Rattle.vale_machine.proofs.machine.Machine.follow.Goals as goal

pub enter-requires-clause-ends : goal.enter-requires-clause-ends
enter-requires-clause-ends c = subst (λ (t : Stop). EndsSo c.args.code.now t c.args.self.now) c.in-Enters.is c.requires.ends

pub turn_aside-requires-clause-ends : goal.turn_aside-requires-clause-ends
turn_aside-requires-clause-ends c = subst (λ (t : Stop). EndsSo c.args.code.now t c.args.self.now) c.in-Aside.is c.requires.ends

pub ret-requires-clause-base : goal.ret-requires-clause-base
ret-requires-clause-base c = omega (arith, c.requires.running.1.laid.lie.0.size)

pub ret-requires-clause-end : goal.ret-requires-clause-end
ret-requires-clause-end c = c.requires.running.1.laid.there

pub ret-requires-clause-value : goal.ret-requires-clause-value
ret-requires-clause-value c =
    let leaves = subst (λ (t : Stop). EndsSo c.args.code.now t c.args.self.now) c.in-Leaves.is c.requires.ends in
    let ends = subst (λ o. EndsSo c.args.code.now (stop.Leaves o) c.args.self.now) c.in-Some.is leaves in
    ret_value c.args.code.now c.requires.running.0 c.args.self.now c.in-Some.register (ends []) c.requires.running.1.safe

pub ret_void-requires-clause-end : goal.ret_void-requires-clause-end
ret_void-requires-clause-end c = c.requires.running.1.laid.there

pub ret_void-requires-clause-base : goal.ret_void-requires-clause-base
ret_void-requires-clause-base c = omega (arith, c.requires.running.1.laid.lie.0.size)

pub returns-in-Some-clause-step : goal.returns-in-Some-clause-step
returns-in-Some-clause-step c = λ taken.
    let u = c.requires.running.1 in
    let leaves = subst (λ (t : Stop). EndsSo c.args.code.now t c.args.self.now) c.in-Leaves.is c.requires.ends in
    let ends = subst (λ o. EndsSo c.args.code.now (stop.Leaves o) c.args.self.now) c.in-Some.is leaves in
    subst (λ (n : Next). Stepped c.args.code.now taken c.ret.result n c.ret.new.self)
    (sym (ret_at c.args.code.now taken c.requires.running.0 c.args.self.now c.in-Some.register (ends []) u.laid.lie.0 u.safe)) (c.ret.ensures.step c.args.code.now taken u.laid)

pub returns-in-None-clause-step : goal.returns-in-None-clause-step
returns-in-None-clause-step c = λ taken.
    let u = c.requires.running.1 in
    let leaves = subst (λ (t : Stop). EndsSo c.args.code.now t c.args.self.now) c.in-Leaves.is c.requires.ends in
    let ends = subst (λ o. EndsSo c.args.code.now (stop.Leaves o) c.args.self.now) c.in-None.is leaves in
    subst (λ (n : Next). Stepped c.args.code.now taken c.ret_void.result n c.ret_void.new.self)
    (sym (void_here c.args.code.now taken c.args.self.now (ends []) u.laid.lie.0)) (c.ret_void.ensures.step c.args.code.now taken u.laid)

pub returns-in-Trap-clause-step : goal.returns-in-Trap-clause-step
returns-in-Trap-clause-step c = λ taken.
    let ends = subst (λ (t : Stop). EndsSo c.args.code.now t c.args.self.now) c.in-Trap.is c.requires.ends in
    trap_here c.args.code.now taken c.args.self.now _ _ (ends taken)

pub returns-in-Cut-clause-step : goal.returns-in-Cut-clause-step
returns-in-Cut-clause-step c = λ taken.
    let ends = subst (λ (t : Stop). EndsSo c.args.code.now t c.args.self.now) c.in-Cut.is c.requires.ends in ends taken

pub returns-in-Some-clause-kept : goal.returns-in-Some-clause-kept
returns-in-Some-clause-kept c = sure_keeps c.ret.result c.args.self.now c.ret.new.self c.ret.ensures.memory

pub returns-in-None-clause-kept : goal.returns-in-None-clause-kept
returns-in-None-clause-kept c = sure_keeps c.ret_void.result c.args.self.now c.ret_void.new.self c.ret_void.ensures.memory

pub unreachable-requires : goal.unreachable-requires
unreachable-requires c = subst (λ (t : Stop). EndsSo c.args.code.now t c.args.self.now) c.in-Going.is c.requires.ends []
