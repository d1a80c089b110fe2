use Rattle.vale_run.proofs.Owed.{FormatsTo-read}
use Rattle.vale_run.proofs.answer.format_file.Goals as goal

pub returns-clause-owed : goal.returns-clause-owed
returns-clause-owed g c =
    let answered = rw c.deref.ensures.value at c.in_ok-format_text.ensures in
    FormatsTo-read _ _ _ _ c.in_ok-text.ensures.bytes answered
