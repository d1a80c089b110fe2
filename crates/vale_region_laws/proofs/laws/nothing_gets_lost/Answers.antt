use Rattle.vale_region_laws.proofs.Full.{step_full}
use Rattle.vale_region_laws.proofs.laws.nothing_gets_lost.Goals as goal

pub returns : goal.returns
returns c = step_full
