use Rattle.std.proofs.Common.{refl, sym, ◌∙◌}
use Rattle.std.proofs.lemmas.Result.{IfOk-weaker}
use Rattle.vale_code.specs.Run.{run_code}
use Rattle.vale_run.proofs.CodeAnswers.{exec_faulty}
use Rattle.vale_run.specs.CodeMeans.{unrun, execs}
use Rattle.vale_run.specs.Effects.{leaves_code, runs}
use Rattle.vale_state_spec.specs.State.{no_input}
use Rattle.vale_run.proofs.codes.exec_code.Goals as goal

pub returns-then-not-is_run : goal.returns-then-not-is_run
returns-then-not-is_run c =
    let un = sym c.is_run.ensures ∙ c.if-not-is_run.true in
    IfOk-weaker c.bad_word.result _ _ (λ a e. (leaves_code, unrun _ _ c.in-Ok.ensures.found un refl, e)) c.bad_word.ensures

pub returns-else-not-is_run : goal.returns-else-not-is_run
returns-else-not-is_run c =
    let fit = sym c.is_run.ensures ∙ c.if-not-is_run.false in
    IfOk-weaker c.run_verified.result _ _ (λ a e. (runs (run_code c.in-Ok.code.code no_input c.args.options.now.ticks), execs _ _ c.in-Ok.ensures.found fit refl, e)) c.run_verified.ensures

pub returns-in-Err-Is : goal.returns-in-Err-Is
returns-in-Err-Is c =
    let why = rw c.in-Err-Is.field-0-is at c.in-Err-Is.ensures.fault in
    IfOk-weaker c.told_of.result _ _ (λ a e. exec_faulty c.args.bytes.now c.args.options.now _ a why e) c.told_of.ensures
