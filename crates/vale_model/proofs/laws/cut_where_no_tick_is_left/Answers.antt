use Rattle.vale_model.proofs.MeaningLaws.{cut_spends_all}
use Rattle.vale_model.proofs.laws.cut_where_no_tick_is_left.Goals as goal

pub returns : goal.returns
returns c = cut_spends_all
