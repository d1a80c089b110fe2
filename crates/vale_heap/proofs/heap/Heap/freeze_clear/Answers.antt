use Rattle.std.proofs.Common.{◌-◌, ◌∙◌, ap, sym, subst}
use Rattle.vale_heap.specs.declared.seat.Home.TheVariants.{Open}
use Rattle.vale_heap.specs.HeapState.{innermost, seat_at, IsFor, NoneFor}
use Rattle.vale_heap.proofs.WorldLaws.{clearing_goes, cleared_is, cleared_law, cleared_keeps}
use Rattle.vale_heap.proofs.heap.Heap.freeze_clear.Goals as goal

pub loop-frame-preserved : goal.loop-frame-preserved
loop-frame-preserved c =
    let inv = c.loop-frame.invariant in
    let page : IsFor (Open (innermost c.args.self.now)) (seat_at c.loop-frame.self c.in-Some.frame) = subst (λ n. IsFor (Open n) (seat_at c.loop-frame.self c.in-Some.frame)) inv.1 c.in-Some.ensures.some in
    (clearing_goes c.args.self.now c.loop-frame.self c.clear_page.new.self c.in-Some.frame inv.0 page c.clear_page.ensures, inv.1)

pub close_region-requires-clause-none : goal.close_region-requires-clause-none
close_region-requires-clause-none c =
    let inv = c.loop-frame.invariant in
    subst (λ n. NoneFor (Open n) c.loop-frame.self) (inv.1 ∙ ap (λ n. n - 1) (sym inv.0.regions)) c.in_default.ensures.none

pub returns-clause-after : goal.returns-clause-after
returns-clause-after c =
    let inv = c.loop-frame.invariant in
    cleared_is c.args.self.now c.loop-frame.self c.close_region.new.self inv.0 (subst (λ n. NoneFor (Open n) c.loop-frame.self) inv.1 c.in_default.ensures.none) c.close_region.ensures.after

pub returns-clause-stands : goal.returns-clause-stands
returns-clause-stands c = cleared_law c.args.self.now c.close_region.new.self c.close_region.ensures.sound (returns-clause-after c)

pub returns-clause-keeps : goal.returns-clause-keeps
returns-clause-keeps c = cleared_keeps c.args.self.now c.close_region.new.self (returns-clause-after c)
