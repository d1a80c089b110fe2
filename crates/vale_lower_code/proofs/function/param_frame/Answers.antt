use Rattle.std.proofs.Common.{arith}
use Rattle.vale_lower_code.proofs.FunctionLaws.{param_next}
use Rattle.vale_lower_code.proofs.function.param_frame.Goals as goal

pub loop-param-preserved : goal.loop-param-preserved
loop-param-preserved c = record {
  next = omega (arith, c.in_ok-declare.ensures.next, c.loop-param.invariant.next);
  locals = param_next c.loop-param.frame.locals.items c.declare.new.self.locals.items c.param-item.result c.loop-param.param-index c.loop-param.frame.next c.declare.new.self.next c.args.params.now _
      c.loop-param-test.true c.param-item.is c.in_ok-declare.ensures.locals c.in_ok-declare.ensures.next c.loop-param.invariant.locals;
}
