use Rattle.vale_region_laws.proofs.StepLaws.{step_fits}
use Rattle.vale_region_laws.proofs.laws.steps_keep_regions.Goals as goal

pub returns : goal.returns
returns c = step_fits
