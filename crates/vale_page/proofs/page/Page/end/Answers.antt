use Rattle.std.proofs.Common.{arith, sym, ◌∙◌, subst}
use Rattle.vale_page.specs.PageState.{IsLater}
use Rattle.vale_page.specs.PageSound.{page_of}
use Rattle.vale_page.proofs.PageLaws.{some_live, later_after_death}
use Rattle.vale_page.proofs.PageLemmas.{at_slot, shown_there, kept_retired, kept_freed, after_retired, after_freed}
use Rattle.vale_page.proofs.page.Page.end.Goals.{then-generation-eq-LAST, else-generation-eq-LAST}
use Rattle.vale_page.proofs.page.Page.end.Goals as goal

pub overflow_sub-self : goal.overflow_sub-self
overflow_sub-self g c =
    let took = c.take-body.ensures.1 in
    let some = some_live (page_of c.self.inside.frame c.self.inside.block) c.args.slot _ (shown_there c.self.inside.frame c.self.inside.block c.self.invariant.block.slots c.take-body.new.self c.args.slot _ took took.served) in
    let live = c.self.invariant.live in
    omega (arith, some, live)

pub invariant_of-self : goal.invariant_of-self
invariant_of-self g c =
    let took = c.take-body.ensures.1 in
    let at = at_slot c.self.inside.frame c.self.inside.block c.self.invariant.block.slots c.args.slot c.args.generation _ c.requires c.generation.ensures c.if-generation.false in
    kept_retired _ _ _ c.self.inside.block c.self.invariant c.take-body.new.self c.args.slot _ took took.served c.take-body.ensures.0 (sym at ∙ c.if-generation-eq-LAST.true)

pub invariant_of-self-else-generation-eq-LAST : goal.invariant_of-self-else-generation-eq-LAST
invariant_of-self-else-generation-eq-LAST g c =
    let took = c.take-body.ensures.1 in
    let at = at_slot c.self.inside.frame c.self.inside.block c.self.invariant.block.slots c.args.slot c.args.generation _ c.requires c.generation.ensures c.if-generation.false in
    kept_freed _ _ _ c.self.inside.block c.self.invariant c.take-body.new.self c.args.slot _ took took.served c.free.new.self c.args.generation c.free.ensures.0 at (omega (arith, c.if-generation-eq-LAST.false)) c.free.ensures.1

pub returns-clause-some : goal.returns-clause-some
returns-clause-some g c =
    let took = c.take-body.ensures.1 in let frame = c.self.inside.frame in let old = c.self.inside.block in let mid = c.take-body.new.self in let slots = c.self.invariant.block.slots in
    let at = at_slot frame old slots c.args.slot c.args.generation _ c.requires c.generation.ensures c.if-generation.false in
    rw (← c.self.view_is) (elim c.if-generation-eq-LAST.branch [
      | then-generation-eq-LAST w ↦ w.self-is ∙ after_retired frame old mid slots c.args.slot _ took (sym at ∙ w.if-generation-eq-LAST.true)
      | else-generation-eq-LAST w ↦ w.self-is ∙ after_freed frame old mid slots c.args.slot _ took w.free.new.self c.args.generation at w.if-generation-eq-LAST.false w.free.ensures.1
    ])

pub returns-clause-later : goal.returns-clause-later
returns-clause-later g c =
    let took = c.take-body.ensures.1 in let frame = c.self.inside.frame in let old = c.self.inside.block in let slots = c.self.invariant.block.slots in
    subst (IsLater c.args.self.now) (sym (returns-clause-some g c))
    (rw (← c.self.view_is) (later_after_death (page_of frame old) c.args.slot _ c.self.invariant.page c.requires (shown_there frame old slots c.take-body.new.self c.args.slot _ took took.served)))
