use Rattle.vale_syntax.specs.View.{view_expr}
use Rattle.vale_reading.proofs.Built.{chain_given}
use Rattle.vale_reading.proofs.build.chained.Goals as goal

pub returns : goal.returns
returns c = chain_given (view_expr c.args.first) c.args.links c.chain.result c.chain.ensures c.is_empty.result c.is_empty.ensures c.if-is_empty.false
