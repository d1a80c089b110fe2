use Rattle.vale_code.proofs.RunLaws.{within}
use Rattle.vale_code.proofs.laws.ticks_stay_within.Goals as goal

pub returns : goal.returns
returns c = within
