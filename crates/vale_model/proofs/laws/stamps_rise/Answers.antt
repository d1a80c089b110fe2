use Rattle.vale_model.proofs.MeaningLaws.{stamps_rise}
use Rattle.vale_model.proofs.laws.stamps_rise.Goals as goal

pub returns : goal.returns
returns c = stamps_rise
