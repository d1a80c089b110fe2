use Rattle.vale_object_facts.proofs.Bodies.{function_is_faultless}
use Rattle.vale_object_facts.proofs.laws.lowered_functions_break_no_rule.Goals as goal

pub returns : goal.returns
returns c = function_is_faultless
