use Rattle.vale_page.specs.PageState.{IsBatch}
use Rattle.vale_page.proofs.page.Page.batch.Given as goal

abbrev pub invariant-loop-frame : goal.invariant-loop-frame
invariant-loop-frame g l = IsBatch l.pages.items l.frame l.first
