use Rattle.vale_core.specs.View.{view_function}
use Rattle.vale_lower_labels.proofs.FunctionLaws.{facts_by_parts}
use Rattle.vale_lower_labels.proofs.function.function_facts.Goals as goal

pub returns : goal.returns
returns c p texts fs er = facts_by_parts p texts fs (view_function c.args.function.now) c.args.registers c.new.result c.in_ok-labels.labels er c.new.ensures c.in_ok-labels.ensures
