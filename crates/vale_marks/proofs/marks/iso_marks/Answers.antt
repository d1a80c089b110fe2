use Rattle.std.proofs.Common.{◌∙◌}
use Rattle.std.proofs.lemmas.Result.{IfOk-weaker}
use Rattle.vale_marks.proofs.WayLaws.{reaches_any}
use Rattle.vale_marks.proofs.marks.iso_marks.Goals as goal

pub returns : goal.returns
returns c = IfOk-weaker c.marks_of.result _ _ (λ marks same n. same n ∙ reaches_any c.args.code.now n) c.marks_of.ensures
