use Rattle.std.proofs.Common.{◌+◌, ◌-◌, length, arith}
use Rattle.vale_owner_flow.proofs.LocalLaws.{place_miss}
use Rattle.vale_owner_flow.proofs.locals.place_of.Goals as goal

pub loop-back-preserved : goal.loop-back-preserved
loop-back-preserved c =
    let many = length c.args.locals.now in
    let back = c.loop-back.back in
    let lt = c.loop-back-test.true in
    place_miss c.args.name.0 c.args.locals.now (many - back) (many - 1 - back) (many - (back + 1)) _ _ (omega (arith, lt)) (omega (arith, lt)) (omega (arith, lt)) c.if-locals-at.false c.loop-back.invariant
