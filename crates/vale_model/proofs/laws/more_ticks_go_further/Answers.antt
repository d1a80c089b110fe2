use Rattle.vale_model.proofs.LongerMeaning.{cut_begins, uncut_stays}
use Rattle.vale_model.proofs.laws.more_ticks_go_further.Goals as goal

pub returns-clause-printed : goal.returns-clause-printed
returns-clause-printed c = cut_begins

pub returns-clause-same : goal.returns-clause-same
returns-clause-same c = uncut_stays
