use Rattle.vale_lower_facts.proofs.Program.{lowered_is_certified}
use Rattle.vale_lower_facts.proofs.laws.lowered_code_is_certified.Goals as goal

pub returns : goal.returns
returns c = lowered_is_certified
