use Rattle.vale_object_typed.proofs.Functions.{typed_programs_fit}
use Rattle.vale_object_typed.proofs.laws.types_of_typed_programs_fit.Goals as goal

pub returns : goal.returns
returns c = typed_programs_fit
