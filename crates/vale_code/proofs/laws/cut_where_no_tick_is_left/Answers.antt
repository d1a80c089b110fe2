use Rattle.vale_code.proofs.RunLaws.{cut}
use Rattle.vale_code.proofs.laws.cut_where_no_tick_is_left.Goals as goal

pub returns : goal.returns
returns c = cut
