use Rattle.vale_code.proofs.Ends.{run_ends, run_ends_once}
use Rattle.vale_code.proofs.laws.run_ends.Goals as goal

pub returns-clause-ends : goal.returns-clause-ends
returns-clause-ends c = run_ends

pub returns-clause-once : goal.returns-clause-once
returns-clause-once c = run_ends_once
