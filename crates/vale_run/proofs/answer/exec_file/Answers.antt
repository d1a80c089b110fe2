use Rattle.vale_run.proofs.Owed.{ExecsTo-read}
use Rattle.vale_run.proofs.answer.exec_file.Goals as goal

pub returns-clause-owed : goal.returns-clause-owed
returns-clause-owed g c =
    let answered = rw c.deref.ensures.value at c.in_ok-exec_code.ensures in
    ExecsTo-read _ _ _ _ _ c.in_ok-bytes.ensures.bytes answered
