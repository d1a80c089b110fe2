use Rattle.vale_region_laws.proofs.Alone.{alone_fits}
use Rattle.vale_region_laws.proofs.laws.an_iteration_begins_alone.Goals as goal

pub returns : goal.returns
returns c = alone_fits
