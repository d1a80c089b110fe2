use Rattle.std.proofs.Common.{◌≡◌, ◌∙◌, map, ap, sym, subst}
use Rattle.vale_heap.specs.declared.seat.Home.TheVariants.{Open, Kept}
use Rattle.vale_heap.specs.HeapState.{HeapState, innermost, rehomed, IsHeap, IsRoot}
use Rattle.vale_heap.proofs.RegionLaws.{can_keep, kept_root, map_moved, none_still, closed_is}
use Rattle.vale_heap.proofs.WorldLaws.{kept_law, moved_keeps}
use Rattle.vale_heap.proofs.heap.Heap.freeze_keep.Goals as goal

pub rehome-requires : goal.rehome-requires
rehome-requires c =
    let ok : IsHeap c.args.self.now = rw (← c.self.view_is) c.self.invariant.heap in
    can_keep c.args.self.now c.args.root ok c.requires.root

pub empty_region-requires : goal.empty_region-requires
empty_region-requires c = subst (λ h. IsRoot h c.args.root) (sym c.rehome.ensures) (kept_root c.args.self.now c.args.root c.requires.root)

pub close_region-requires-clause-none : goal.close_region-requires-clause-none
close_region-requires-clause-none c = none_still c.rehome.new.self c.empty_region.new.self _ c.empty_region.ensures.after c.empty_region.ensures.none

pub returns-clause-after : goal.returns-clause-after
returns-clause-after c =
    let now = c.args.self.now in
    let root = c.args.root in
    let lives = c.requires.root in
    let maps : map (rehomed (Open (innermost now)) (Kept root)) c.rehome.new.self.seats ≡ map (rehomed (Open (innermost now)) (Kept root)) now.seats =
    ap (λ (h : HeapState). map (rehomed (Open (innermost now)) (Kept root)) h.seats) c.rehome.ensures ∙ map_moved now root.frame (Open (innermost now)) (Kept root) (lives.seat, lives.there, lives.home_is) in
    closed_is now c.rehome.new.self c.empty_region.new.self c.close_region.new.self (Kept root) maps (ap (λ (h : HeapState). h.regions) c.rehome.ensures) (ap (λ (h : HeapState). h.depth) c.rehome.ensures)
    c.empty_region.ensures.after c.close_region.ensures.after

pub returns-clause-stands : goal.returns-clause-stands
returns-clause-stands c = kept_law c.args.self.now c.close_region.new.self c.args.root c.close_region.ensures.sound (returns-clause-after c)

pub returns-clause-keeps : goal.returns-clause-keeps
returns-clause-keeps c = moved_keeps c.args.self.now c.close_region.new.self (Open (innermost c.args.self.now)) (Kept c.args.root) (ap (λ (h : HeapState). h.seats) (returns-clause-after c))
