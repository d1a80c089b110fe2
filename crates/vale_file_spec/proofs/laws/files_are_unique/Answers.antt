use Rattle.vale_file_spec.proofs.WholeLaws.{one_spelling, one_meaning, no_front}
use Rattle.vale_file_spec.proofs.laws.files_are_unique.Goals as goal

pub returns-clause-spelling : goal.returns-clause-spelling
returns-clause-spelling c = one_spelling

pub returns-clause-meaning : goal.returns-clause-meaning
returns-clause-meaning c = one_meaning

pub returns-clause-front : goal.returns-clause-front
returns-clause-front c = no_front
