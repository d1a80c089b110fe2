use Rattle.vale_region_laws.proofs.StepLaws.{run_fits, run_kept}
use Rattle.vale_region_laws.proofs.laws.frozen_stays.Goals as goal

pub returns-clause-fits : goal.returns-clause-fits
returns-clause-fits c = run_fits

pub returns-clause-kept : goal.returns-clause-kept
returns-clause-kept c = run_kept
