use Rattle.vale_run.specs.Owed.{no_job}
use Rattle.vale_run.proofs.answer.answer_of.Goals as goal

pub returns-in_ok-bad_word-in-Err-Is-clause-owed : goal.returns-in_ok-bad_word-in-Err-Is-clause-owed
returns-in_ok-bad_word-in-Err-Is-clause-owed g c =
    let fault = rw c.in-Err-Is.field-0-is at c.in-Err-Is.ensures.fault in
    λ input after out err new_out new_err. no_job _ fault c.in_ok-bad_word-in-Err-Is.ensures
