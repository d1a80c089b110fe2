use Rattle.vale_run.proofs.Owed.{BuildsTo-read}
use Rattle.vale_run.proofs.answer.build_file.Goals as goal

pub returns-clause-owed : goal.returns-clause-owed
returns-clause-owed g c =
    let answered = rw c.deref.ensures.value at c.in_ok-build_text.ensures in
    BuildsTo-read _ _ _ _ _ c.in_ok-text.ensures.bytes answered
