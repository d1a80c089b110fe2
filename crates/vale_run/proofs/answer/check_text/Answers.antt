use Rattle.std.proofs.Common.{refl, ap, sym, arith}
use Rattle.std.proofs.lemmas.Result.{IfOk-weaker}
use Rattle.vale_core.specs.View.{view_core}
use Rattle.vale_front.proofs.ByteLaws.{all_bytes}
use Rattle.vale_run.specs.Effects.{prints, refuses}
use Rattle.vale_run.specs.Means.{counts, refused_check, checks}
use Rattle.vale_run.proofs.answer.check_text.Goals as goal

pub returns-in-Ok : goal.returns-in-Ok
returns-in-Ok c =
    let found = c.in-Ok.ensures.found in
    let none = c.served_programs_are_plain.ensures.sites c.args.text.now found.0 found.1 (view_core c.in-Ok._sound.core) (all_bytes c.args.text.now (λ k. omega (arith, c.type_inv.text k))) found.2 in
    IfOk-weaker c.counted.result _ _ (λ a e. (prints (counts 0 0), checks found.0 found.1 (view_core c.in-Ok._sound.core) found.2 (ap (λ n. prints (counts n 0)) (sym none)), e)) c.counted.ensures

pub returns-in-Err-Is : goal.returns-in-Err-Is
returns-in-Err-Is c =
    let why = rw c.in-Err-Is.field-0-is at c.in-Err-Is.ensures.refused in
    IfOk-weaker c.refused.result _ _ (λ a e. (refuses _ _, refused_check _ _ why refl, e)) c.refused.ensures
