use Rattle.vale_verifier.proofs.FuncLaws.{room_more}
use Rattle.vale_verifier.proofs.walk.most_registers.Goals as goal

pub loop-func-preserved : goal.loop-func-preserved
loop-func-preserved c =
    room_more c.loop-func.most c.larger-most.result c.loop-func.func-index c.args.funcs.now c.func-item.result c.loop-func-test.true c.func-item.is c.larger-most.ensures.left c.larger-most.ensures.right c.loop-func.invariant
