use Rattle.vale_object_kinds.proofs.Same.{kinds_of_program}
use Rattle.vale_object_kinds.proofs.laws.kinds_are_those_of_the_program.Goals as goal

pub returns : goal.returns
returns c = record { kinds = kinds_of_program }
