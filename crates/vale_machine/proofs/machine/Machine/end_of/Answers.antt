use Rattle.std.proofs.Common.{[], None, append-nil, refl, sym, ap, ◌∙◌, subst}
use Rattle.vale_state_spec.specs.Outcome.{Trap}
use Rattle.vale_base.specs.declared.trap.TrapInfo.{TrapInfo}
use Rattle.vale_code.specs.Frames.{Next, Over}
use Rattle.vale_code.specs.Run.{state_in}
use Rattle.vale_text.specs.Progress.{Begins}
use Rattle.vale_machine.specs.UnderWay.{HasFirst}
use Rattle.vale_machine.specs.View.{Stepped, state_of}
use Rattle.vale_machine.specs.declared.machine.Step.{Step}
use Rattle.vale_machine.proofs.machine.Machine.end_of.Goals as goal

pub returns-in-Done-clause-step : goal.returns-in-Done-clause-step
returns-in-Done-clause-step c = λ taken next h first.
    let w = subst (λ (s : Step). Stepped c.args.code.now taken s next c.args.self.now) c.in-Done.is h in
    (refl, w.0, w.1)

pub returns-in-Ok-clause-step : goal.returns-in-Ok-clause-step
returns-in-Ok-clause-step c = λ taken next h first.
    let w = subst (λ (s : Step). Stepped c.args.code.now taken s next c.args.self.now) c.in-Trap.is h in
    (refl, w ∙ ap (λ (i : TrapInfo). Over (Trap i) None (state_of taken c.args.self.now)) (sym c.in-Ok.ensures))

pub returns-in-Err-clause-step : goal.returns-in-Err-clause-step
returns-in-Err-clause-step c = λ taken next h first.
    let w = subst (λ (s : Step). Stepped c.args.code.now taken s next c.args.self.now) c.in-Trap.is h in
    subst (λ (x : Next). Begins (state_of taken c.args.self.now).pieces (state_in x).pieces) (sym w) ([], sym (append-nil _))

pub returns-in-Memory-clause-step : goal.returns-in-Memory-clause-step
returns-in-Memory-clause-step c = λ taken next h first. subst (λ (s : Step). HasFirst s next (state_of taken c.args.self.now)) c.in-Memory.is first
