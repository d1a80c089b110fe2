use Rattle.std.proofs.Common.{◌∙◌}
use Rattle.vale_run.proofs.Jobs.{options_left}
use Rattle.vale_run.proofs.answer.unserved.Goals as goal

pub returns-in-Run : goal.returns-in-Run
returns-in-Run c = rw c.in-Run.is (c.other_option.ensures ∙ options_left c.args.words.now)

pub returns-in-Exec : goal.returns-in-Exec
returns-in-Exec c = rw c.in-Exec.is (c.other_option-in-Exec.ensures ∙ options_left c.args.words.now)
