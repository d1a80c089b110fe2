use Rattle.std.proofs.Common.{◌∙◌, ap, arith}
use Rattle.vale_page.specs.PageState.{body_at}
use Rattle.vale_heap.proofs.ClearLaws.{emptied_next}
use Rattle.vale_heap.proofs.seat.clear.Goals as goal

pub loop-slot-preserved : goal.loop-slot-preserved
loop-slot-preserved c =
    let page = c.loop-slot.page in
    let slot = c.loop-slot.slot in
    emptied_next c.args.page.now page slot (omega arith) c.loop-slot.invariant c.end.new.self c.end.result (c.end.ensures.body ∙ ap (body_at page slot) c.generation-generation.ensures) c.end.ensures.none c.end.ensures.some
