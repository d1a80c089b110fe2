use Rattle.vale_syntax.specs.View.{view_expr}
use Rattle.vale_reading.proofs.Built.{steps_given}
use Rattle.vale_reading.proofs.build.stepped.Goals as goal

pub returns : goal.returns
returns c = steps_given (view_expr c.args.base) c.args.steps c.steps-2.result c.steps-2.ensures c.is_empty.result c.is_empty.ensures c.if-is_empty.false
