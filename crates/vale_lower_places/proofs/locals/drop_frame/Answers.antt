use Rattle.std.proofs.Common.{◌<◌, ◌-◌, ◌∙◌, length, arith}
use Rattle.std.proofs.lemmas.List.{get_or_default}
use Rattle.vale_lower_places.proofs.PlaceLaws.{drop_back}
use Rattle.vale_lower_places.proofs.locals.drop_frame.Goals as goal

pub loop-back-preserved : goal.loop-back-preserved
loop-back-preserved c = λ outer.
    let ls = c.args.locals.now in
    let there : c.loop-back.back < length ls = omega arith in
    let less : length ls - 1 - c.loop-back.back < length ls = omega arith in
    drop_back ls c.loop-back.back _ c.args.at _ _ _ outer there (get_or_default ls (length ls - 1 - c.loop-back.back) _ _ less) c.arrive.ensures c.in_ok-drop_local.ensures
    ∙ c.loop-back.invariant outer
