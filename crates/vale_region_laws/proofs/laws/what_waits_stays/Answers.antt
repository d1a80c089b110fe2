use Rattle.vale_region_laws.proofs.StepLaws.{step_waiting}
use Rattle.vale_region_laws.proofs.laws.what_waits_stays.Goals as goal

pub returns : goal.returns
returns c = step_waiting
