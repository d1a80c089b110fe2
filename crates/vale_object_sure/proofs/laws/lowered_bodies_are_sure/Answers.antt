use Rattle.vale_object_sure.proofs.Whole.{sure_bodies}
use Rattle.vale_object_sure.proofs.laws.lowered_bodies_are_sure.Goals as goal

pub returns : goal.returns
returns c = sure_bodies c.types_of_typed_programs_fit.ensures c.lowered_code_has_tables.ensures
