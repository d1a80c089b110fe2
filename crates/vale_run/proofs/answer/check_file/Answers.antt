use Rattle.vale_run.proofs.Owed.{ChecksTo-read}
use Rattle.vale_run.proofs.answer.check_file.Goals as goal

pub returns-clause-owed : goal.returns-clause-owed
returns-clause-owed g c =
    let answered = rw c.deref.ensures.value at c.in_ok-check_text.ensures in
    ChecksTo-read _ _ _ _ c.in_ok-text.ensures.bytes answered
