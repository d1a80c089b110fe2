use Rattle.vale_object_typed.proofs.Tables.{lowered_has_tables}
use Rattle.vale_object_typed.proofs.laws.lowered_code_has_tables.Goals as goal

pub returns : goal.returns
returns c = lowered_has_tables
