use Rattle.vale_region_laws.proofs.Starting.{start_fits}
use Rattle.vale_region_laws.proofs.laws.a_run_begins.Goals as goal

pub returns : goal.returns
returns c code input ticks = start_fits code ticks input
