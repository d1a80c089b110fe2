use Rattle.std.proofs.Common.{Some, Err, sym, ap, ◌∙◌, subst}
use Rattle.vale_code.specs.Instructions.{answered}
use Rattle.vale_text.specs.Gives.{Gives}
use Rattle.vale_text.specs.Steps.{gives_text}
use Rattle.vale_machine.specs.View.{Stepped, active, below, registers_of, state_of}
use Rattle.vale_machine.proofs.Getting.{frames_same, trap_told}
use Rattle.vale_machine.proofs.machine.Machine.land_text.Goals as goal

pub returns-in-Ok-clause-step : goal.returns-in-Ok-clause-step
returns-in-Ok-clause-step c = λ code taken meaning h.
    let m = c.args.self.now in
    let e = subst (λ o. Gives o meaning) c.in-Ok.is h in
    subst (λ r. Stepped code taken c.take_text.result (answered (active code m) (Some c.args.to) (registers_of m) c.args.at (below code m) (state_of taken m) (gives_text (state_of taken m) r)) c.take_text.new.self) (sym e) (c.take_text.ensures.step code taken)

pub returns-in-Is-clause-step : goal.returns-in-Is-clause-step
returns-in-Is-clause-step c = λ code taken meaning h.
    let m = c.args.self.now in
    let e = subst (λ o. Gives (Err o) meaning) c.in-Is.is (subst (λ o. Gives o meaning) c.in-Err.is h) in
    ap (λ r. answered (active code m) (Some c.args.to) (registers_of m) c.args.at (below code m) (state_of taken m) (gives_text (state_of taken m) r)) e ∙ trap_told code taken m c.in-Is.kind c.args.at

pub returns-in-Is-clause-keeps : goal.returns-in-Is-clause-keeps
returns-in-Is-clause-keeps c = frames_same _ c.args.self.now

pub returns-in-Memory-clause-keeps : goal.returns-in-Memory-clause-keeps
returns-in-Memory-clause-keeps c = frames_same _ c.args.self.now
