use Rattle.std.proofs.Common.{◌+◌, sym, subst}
use Rattle.vale_page.specs.PageState.{IsBatch}
use Rattle.vale_page.proofs.PageLemmas.{batch_more}
use Rattle.vale_page.proofs.page.Page.batch.Goals as goal

pub loop-frame-preserved : goal.loop-frame-preserved
loop-frame-preserved g c =
    subst (λ l. IsBatch l (c.loop-frame.frame + 1) c.args.first) (sym c.in_ok-push.ensures.items) (batch_more c.loop-frame.pages.items c.in_ok-blank.field-0 c.loop-frame.frame c.args.first c.loop-frame.invariant c.in_ok-blank.ensures)
