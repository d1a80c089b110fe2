use Rattle.vale_object_sure.proofs.Whole.{owned_break_no_rule}
use Rattle.vale_object_sure.proofs.laws.owned_code_breaks_no_rule.Goals as goal

pub returns : goal.returns
returns c = owned_break_no_rule c.lowered_bodies_are_sure.ensures c.lowered_code_breaks_no_rule.ensures
