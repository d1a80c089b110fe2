use Rattle.vale_model.proofs.MeaningLaws.{names_stay}
use Rattle.vale_model.proofs.laws.names_never_return.Goals as goal

pub returns : goal.returns
returns c = names_stay
