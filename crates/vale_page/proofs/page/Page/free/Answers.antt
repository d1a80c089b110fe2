use Rattle.std.proofs.Common.{arith}
use Rattle.vale_page.proofs.PageLaws.{page_counts}
use Rattle.vale_page.proofs.page.Page.free.Goals as goal

pub overflow_sub-result : goal.overflow_sub-result
overflow_sub-result g c =
    let few = page_counts _ c.self.invariant.page in
    let live = c.self.invariant.live in
    let retired = c.self.invariant.retired in
    omega (arith, few, live, retired)
