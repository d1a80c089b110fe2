use Rattle.std.proofs.Common.{refl}
use Rattle.std.proofs.lemmas.Result.{IfOk-weaker}
use Rattle.vale_listing.specs.Listing.{listing}
use Rattle.vale_run.proofs.CodeAnswers.{list_faulty}
use Rattle.vale_run.specs.CodeMeans.{lists}
use Rattle.vale_run.specs.Effects.{prints}
use Rattle.vale_run.proofs.codes.list_code.Goals as goal

pub returns-in-Ok : goal.returns-in-Ok
returns-in-Ok c =
    IfOk-weaker c.listed.result _ _ (λ a e. (prints (listing c.in-Ok.code.code c.in-Ok.code.facts), lists _ _ c.in-Ok.ensures.found refl, e)) c.listed.ensures

pub returns-in-Err-Is : goal.returns-in-Err-Is
returns-in-Err-Is c =
    let why = rw c.in-Err-Is.field-0-is at c.in-Err-Is.ensures.fault in
    IfOk-weaker c.told_of.result _ _ (λ a e. list_faulty c.args.bytes.now _ a why e) c.told_of.ensures
