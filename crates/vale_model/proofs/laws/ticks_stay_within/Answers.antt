use Rattle.vale_model.proofs.MeaningLaws.{ticks_within}
use Rattle.vale_model.proofs.laws.ticks_stay_within.Goals as goal

pub returns : goal.returns
returns c = ticks_within
