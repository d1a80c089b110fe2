use Rattle.vale_code.proofs.RunLaws.{dead_stay}
use Rattle.vale_code.proofs.laws.the_dead_are_not_dropped.Goals as goal

pub returns : goal.returns
returns c = dead_stay
