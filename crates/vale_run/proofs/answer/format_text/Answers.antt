use Rattle.std.proofs.Common.{refl}
use Rattle.std.proofs.lemmas.Result.{IfOk-weaker}
use Rattle.vale_syntax.specs.Canon.{canon}
use Rattle.vale_syntax.specs.View.{view_tree}
use Rattle.vale_run.specs.Effects.{prints, refuses}
use Rattle.vale_run.specs.Means.{refused_format, formats}
use Rattle.vale_run.proofs.answer.format_text.Goals as goal

pub returns-in-Ok : goal.returns-in-Ok
returns-in-Ok c =
    IfOk-weaker c.printed.result _ _ (λ a e. (prints (canon (view_tree c.in-Ok.tree)), formats (view_tree c.in-Ok.tree) c.in-Ok.ensures.found refl, e)) c.printed.ensures

pub returns-in-Err-Is : goal.returns-in-Err-Is
returns-in-Err-Is c =
    let why = rw c.in-Err-Is.field-0-is at c.in-Err-Is.ensures.refused in
    IfOk-weaker c.refused.result _ _ (λ a e. (refuses _ _, refused_format _ _ why refl, e)) c.refused.ensures
