use Rattle.std.proofs.Common.{◌≡◌, ◌-◌, refl, ◌∙◌, ap, arith}
use Rattle.vale_heap.specs.declared.seat.Home.TheVariants.{Open}
use Rattle.vale_heap.specs.HeapState.{HeapState, innermost, with_rehomed}
use Rattle.vale_heap.proofs.RegionLaws.{none_still, closed_is}
use Rattle.vale_heap.proofs.WorldLaws.{merged_law, moved_keeps}
use Rattle.vale_heap.proofs.heap.Heap.freeze_merge.Goals as goal

pub close_region-requires-clause-none : goal.close_region-requires-clause-none
close_region-requires-clause-none c = none_still c.args.self.now c.empty_region.new.self _ c.empty_region.ensures.after c.empty_region.ensures.none

pub returns-clause-after : goal.returns-clause-after
returns-clause-after c =
    let now = c.args.self.now in
    let outer : c.self.inside.regions - 2 ≡ innermost now - 1 = rw (← c.self.view_is) (omega arith) in
    closed_is now now c.empty_region.new.self c.close_region.new.self (Open (innermost now - 1)) refl refl refl
    (c.empty_region.ensures.after ∙ ap (λ n. with_rehomed now (Open (innermost now)) (Open n)) outer) c.close_region.ensures.after

pub returns-clause-stands : goal.returns-clause-stands
returns-clause-stands c = merged_law c.args.self.now c.close_region.new.self c.close_region.ensures.sound (returns-clause-after c)

pub returns-clause-keeps : goal.returns-clause-keeps
returns-clause-keeps c = moved_keeps c.args.self.now c.close_region.new.self (Open (innermost c.args.self.now)) (Open (innermost c.args.self.now - 1)) (ap (λ (h : HeapState). h.seats) (returns-clause-after c))
