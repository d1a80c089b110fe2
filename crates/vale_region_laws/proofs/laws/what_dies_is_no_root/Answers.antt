use Rattle.vale_region_laws.proofs.Ending.{dies_inside, ends_no_root}
use Rattle.vale_region_laws.proofs.laws.what_dies_is_no_root.Goals as goal

pub returns-clause-inside : goal.returns-clause-inside
returns-clause-inside c = dies_inside

pub returns-clause-no_root : goal.returns-clause-no_root
returns-clause-no_root c = ends_no_root
