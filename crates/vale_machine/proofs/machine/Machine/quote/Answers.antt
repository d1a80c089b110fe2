use Rattle.std.proofs.Common.{ℕ, List, Option, Some, sym, ap, ◌∙◌, subst}
use Rattle.vale_state_spec.specs.World.{Text}
use Rattle.vale_code.specs.Instructions.{onward, with_choice}
use Rattle.vale_code.specs.Registers.{put}
use Rattle.vale_machine.specs.View.{Stepped, active, below, registers_of, state_of}
use Rattle.vale_machine.proofs.Getting.{frames_same}
use Rattle.vale_machine.proofs.machine.Machine.quote.Goals as goal

pub returns-in-Ok-clause-step : goal.returns-in-Ok-clause-step
returns-in-Ok-clause-step c = λ taken.
    let code = c.args.code.now in
    let m = c.args.self.now in
    subst (λ (o : Option (List ℕ)). Stepped code taken c.take_text.result (with_choice o (state_of taken m) (λ t. onward (active code m) (put (registers_of m) c.args.to (Some (Text t))) (below code m) (state_of taken m))) c.take_text.new.self)
    (ap Some (c.in-Ok.ensures ∙ c.as_slice.ensures) ∙ sym c.text_numbered-quoted.ensures)
    (c.take_text.ensures.step code taken)

pub returns-in-Err-clause-keeps : goal.returns-in-Err-clause-keeps
returns-in-Err-clause-keeps c = frames_same _ c.args.self.now
