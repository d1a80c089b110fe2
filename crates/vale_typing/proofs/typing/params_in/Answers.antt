use Rattle.std.proofs.Common.{arith}
use Rattle.std.proofs.lemmas.Grind.{common_steps}
use Rattle.vale_typed_parts.proofs.FrameLaws.{framed_more}
use Rattle.vale_typing.proofs.typing.params_in.Goals as goal

pub loop-param-preserved : goal.loop-param-preserved
loop-param-preserved c = λ gives.
    let so_far = c.loop-param.invariant gives in
    grind (arith, common_steps, framed_more, so_far)
