use Rattle.std.proofs.Common.{◌<◌, length, refl, arith}
use Rattle.vale_object_passing.proofs.Passes.{blank_more}
use Rattle.vale_object_passing.proofs.arguments.blank.Goals as goal

pub loop-at-preserved : goal.loop-at-preserved
loop-at-preserved c =
    let lt : c.loop-at.at < length c.loop-at.registers = omega (arith, c.loop-at-test.true, c.loop-at.auto.registers) in
    blank_more c.loop-at.at _ c.loop-at.registers _ lt (λ x. refl) c.loop-at.invariant
