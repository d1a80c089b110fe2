use Rattle.std.proofs.Common.{arith}
use Rattle.vale_page.proofs.PageLemmas.{kept_blank}
use Rattle.vale_page.proofs.page.Page.blank.Goals as goal

pub invariant_of-result : goal.invariant_of-result
invariant_of-result g c =
    let made = c.in_ok-block.ensures in
    (kept_blank c.args.frame c.args.base _ (omega arith) made.0 made.1 made.2 made.3).0

pub returns : goal.returns
returns g c =
    let made = c.in_ok-block.ensures in
    (kept_blank c.args.frame c.args.base _ (omega arith) made.0 made.1 made.2 made.3).1
