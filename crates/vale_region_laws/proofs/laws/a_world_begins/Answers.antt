use Rattle.vale_region_laws.proofs.StepLaws.{begins_fit}
use Rattle.vale_region_laws.proofs.laws.a_world_begins.Goals as goal

pub returns : goal.returns
returns c = begins_fit
