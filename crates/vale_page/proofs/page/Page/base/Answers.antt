use Rattle.std.proofs.Common.{◌≡◌, ◌+◌, suc, take, max, get_or, sym, ap, ◌∙◌, arith}
use Rattle.vale_page.specs.PageState.{greatest}
use Rattle.vale_page.specs.PageSound.{page_of}
use Rattle.vale_page.proofs.PageLemmas.{greatest_more, generation_shown}
use Rattle.vale_page.proofs.page.Page.base.Goals.{then-generation-base, else-generation-base}
use Rattle.vale_page.proofs.page.Page.base.Goals as goal

pub loop-slot-preserved : goal.loop-slot-preserved
loop-slot-preserved g c =
    let slots = c.self.invariant.block.slots in let many = slots.numbers in let ns = (page_of c.self.inside.frame c.self.inside.block).generations in let k = c.loop-slot.slot in
    let all = c.self.invariant.page.generations in
    let shown : get_or ns k 0 ≡ c.generation-generation.result = generation_shown _ c.self.inside.block.generations.cells k (omega (arith, many)) ∙ sym c.generation-generation.ensures in
    let more : greatest (take (k + 1) ns) ≡ max (greatest (take k ns)) (get_or ns k 0) = ap (λ j. greatest (take j ns)) (let e : k + 1 ≡ suc k = omega arith in e) ∙ greatest_more ns k (omega (arith, all)) in
    let before : c.loop-slot.base ≡ greatest (take k ns) = rw (← c.self.view_is) at c.loop-slot.invariant in
    rw (← c.self.view_is) (elim c.if-generation-base.branch [
      | then-generation-base w ↦ omega (arith, w.base-is, w.if-generation-base.true, shown, more, before)
      | else-generation-base w ↦ omega (arith, w.base-is, w.if-generation-base.false, shown, more, before)
    ])
