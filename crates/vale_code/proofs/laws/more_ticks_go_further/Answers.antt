use Rattle.vale_code.proofs.LongerLaws.{front, same}
use Rattle.vale_code.proofs.laws.more_ticks_go_further.Goals as goal

pub returns-clause-printed : goal.returns-clause-printed
returns-clause-printed c = front

pub returns-clause-same : goal.returns-clause-same
returns-clause-same c = same
