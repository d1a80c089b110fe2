use Rattle.vale_run.proofs.Owed.{ListsTo-read}
use Rattle.vale_run.proofs.answer.list_file.Goals as goal

pub returns-clause-owed : goal.returns-clause-owed
returns-clause-owed g c =
    let answered = rw c.deref.ensures.value at c.in_ok-list_code.ensures in
    ListsTo-read _ _ _ _ c.in_ok-bytes.ensures.bytes answered
