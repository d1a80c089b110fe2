use Rattle.std.proofs.Common.{refl, arith}
use Rattle.std.proofs.lemmas.Result.{IfOk-weaker}
use Rattle.vale_core.specs.View.{view_core}
use Rattle.vale_front.proofs.ByteLaws.{all_bytes}
use Rattle.vale_model.specs.Meaning.{meaning}
use Rattle.vale_run.proofs.PlainLaws.{has_no_input, takes_none}
use Rattle.vale_run.specs.Effects.{refuses, runs}
use Rattle.vale_run.specs.Means.{refused_run, input_read}
use Rattle.vale_state_spec.specs.State.{no_input}
use Rattle.vale_run.proofs.answer.run_text.Goals as goal

pub run_program-requires-clause-runs : goal.run_program-requires-clause-runs
run_program-requires-clause-runs c =
    let found = c.in-Ok.ensures.found in
    c.accepted_programs_run.ensures c.args.text.now found.0 found.1 (view_core c.in-Ok.sound.core) (all_bytes c.args.text.now (λ k. omega (arith, c.type_inv.text k))) found.2

pub returns-in-Ok : goal.returns-in-Ok
returns-in-Ok c =
    let found = c.in-Ok.ensures.found in
    let program = view_core c.in-Ok.sound.core in
    let none = c.served_programs_are_plain.ensures.input c.args.text.now found.0 found.1 program (all_bytes c.args.text.now (λ k. omega (arith, c.type_inv.text k))) found.2 in
    IfOk-weaker c.run_program.result _ _
    (λ a e input. (runs (meaning program no_input c.args.options.now.ticks), input_read found.0 found.1 program found.2 no_input (has_no_input program input none) (takes_none program input none) refl, e))
    c.run_program.ensures

pub returns-in-Err-Is : goal.returns-in-Err-Is
returns-in-Err-Is c =
    let why = rw c.in-Err-Is.field-0-is at c.in-Err-Is.ensures.refused in
    IfOk-weaker c.refused.result _ _ (λ a e input. (refuses _ _, refused_run _ _ why refl, e)) c.refused.ensures
