use Rattle.vale_region_laws.proofs.Whole.{step_keeps}
use Rattle.vale_region_laws.proofs.laws.every_step_keeps_regions.Goals as goal

pub returns : goal.returns
returns c = step_keeps
