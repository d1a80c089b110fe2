use Rattle.std.proofs.Common.{◌∙◌}
use Rattle.std.proofs.lemmas.Result.{IfOk-weaker}
use Rattle.vale_marks.proofs.WayLaws.{isolates_by_arrays}
use Rattle.vale_marks.proofs.marks.array_marks.Goals as goal

pub returns : goal.returns
returns c = IfOk-weaker c.marks_of.result _ _ (λ marks same n. same n ∙ isolates_by_arrays c.args.code.now n) c.marks_of.ensures
