use Rattle.vale_model.proofs.MeaningLaws.{dead_stay}
use Rattle.vale_model.proofs.laws.the_dead_are_not_dropped.Goals as goal

pub returns : goal.returns
returns c = dead_stay
