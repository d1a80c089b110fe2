use Rattle.std.proofs.Common.{Some, sym, ap, ◌∙◌, rules}
use Rattle.std.proofs.lemmas.Int.{to_z-of_z}
use mir.Syntax.{w64}
use Rattle.vale_state_spec.specs.World.{Int}
use Rattle.vale_code.specs.Instructions.{answered, onward}
use Rattle.vale_code.specs.Registers.{put}
use Rattle.vale_text.specs.Steps.{gives_int}
use Rattle.vale_machine.specs.View.{active, below, registers_of, state_of}
use Rattle.vale_machine.proofs.Getting.{frames_kept, frames_same, goes_on, trap_told}
use Rattle.vale_machine.proofs.machine.Machine.land_int.Goals as goal

pub returns-in-Ok-clause-step : goal.returns-in-Ok-clause-step
returns-in-Ok-clause-step c = λ code taken.
    let m = c.args.self.now in
    ap (λ r. answered (active code m) (Some c.args.to) (registers_of m) c.args.at (below code m) (state_of taken m) (gives_int (state_of taken m) r)) c.in-Ok.is
    ∙ ap (λ z. onward (active code m) (put (registers_of m) c.args.to (Some (Int z))) (below code m) (state_of taken m)) (sym (to_z-of_z w64 c.in-Ok.number (search rules)))
    ∙ goes_on code taken m c.get_int.new.self _ c.get_int.ensures

pub returns-in-Ok-clause-keeps : goal.returns-in-Ok-clause-keeps
returns-in-Ok-clause-keeps c = frames_kept _ c.args.self.now c.get_int.new.self _ c.get_int.ensures

pub returns-in-Err-clause-step : goal.returns-in-Err-clause-step
returns-in-Err-clause-step c = λ code taken.
    let m = c.args.self.now in
    ap (λ r. answered (active code m) (Some c.args.to) (registers_of m) c.args.at (below code m) (state_of taken m) (gives_int (state_of taken m) r)) c.in-Err.is ∙ trap_told code taken m c.in-Err.kind c.args.at

pub returns-in-Err-clause-keeps : goal.returns-in-Err-clause-keeps
returns-in-Err-clause-keeps c = frames_same _ c.args.self.now
