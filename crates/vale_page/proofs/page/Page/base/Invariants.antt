use Rattle.std.proofs.Common.{◌≡◌, take}
use Rattle.vale_page.specs.PageState.{greatest}
use Rattle.vale_page.proofs.page.Page.base.Given as goal

abbrev pub invariant-loop-slot : goal.invariant-loop-slot
invariant-loop-slot g l = l.base ≡ greatest (take l.slot l.self.generations)
