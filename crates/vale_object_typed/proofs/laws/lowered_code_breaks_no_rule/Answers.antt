use Rattle.vale_object_typed.proofs.Whole.{functions_break_no_rule}
use Rattle.vale_object_typed.proofs.laws.lowered_code_breaks_no_rule.Goals as goal

pub returns : goal.returns
returns c = functions_break_no_rule
