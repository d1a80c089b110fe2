use Rattle.std.proofs.Common.{sym, ◌∙◌}
use Rattle.vale_run.proofs.Jobs.{job_unserved, job_served}
use Rattle.vale_run.proofs.answer.answer_job.Goals as goal

pub returns-in_ok-bad_word-in-Some-clause-owed : goal.returns-in_ok-bad_word-in-Some-clause-owed
returns-in_ok-bad_word-in-Some-clause-owed g c =
    job_unserved _ _ c.requires _ _ _ (sym c.unserved.ensures ∙ c.in-Some.is) c.in_ok-bad_word-in-Some.ensures

pub do_job-requires : goal.do_job-requires
do_job-requires g c = job_served _ _ c.requires (sym c.unserved.ensures ∙ c.in-None.is)

pub returns-in-None-clause-untouched : goal.returns-in-None-clause-untouched
returns-in-None-clause-untouched g c none = absurd (none (c.args.job.now, job_served _ _ c.requires (sym c.unserved.ensures ∙ c.in-None.is)))
