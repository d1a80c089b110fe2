use Rattle.std.proofs.Common.{arith}
use Rattle.vale_page.proofs.PageLemmas.{kept_reset}
use Rattle.vale_page.proofs.page.Page.reset.Goals as goal

pub invariant_of-self : goal.invariant_of-self
invariant_of-self g c =
    (kept_reset _ _ _ c.args.base c.self.inside.block c.reset.new.self c.self.invariant c.reset.ensures.0 c.reset.ensures.1 (rw (← c.self.view_is) at c.requires.blank) (rw (← c.self.view_is) at c.requires.base) (omega arith)).0

pub returns-clause-blank : goal.returns-clause-blank
returns-clause-blank g c = rw (← c.self.view_is)
    (kept_reset _ _ _ c.args.base c.self.inside.block c.reset.new.self c.self.invariant c.reset.ensures.0 c.reset.ensures.1 (rw (← c.self.view_is) at c.requires.blank) (rw (← c.self.view_is) at c.requires.base) (omega arith)).1

pub returns-clause-later : goal.returns-clause-later
returns-clause-later g c = rw (← c.self.view_is)
    (kept_reset _ _ _ c.args.base c.self.inside.block c.reset.new.self c.self.invariant c.reset.ensures.0 c.reset.ensures.1 (rw (← c.self.view_is) at c.requires.blank) (rw (← c.self.view_is) at c.requires.base) (omega arith)).2
