use Rattle.std.proofs.Common.{◌≡◌, ◌-◌, ◌∙◌, ap, sym, subst}
use Rattle.vale_heap.specs.declared.seat.Home.TheVariants.{Open, Kept}
use Rattle.vale_heap.specs.HeapState.{HeapState, innermost, with_moved, IsMovable, IsHeap}
use Rattle.vale_heap.proofs.RegionLaws.{IsMerging, can_merge, can_merge_root, merging_goes, merged_is}
use Rattle.vale_heap.proofs.WorldLaws.{iso_law, moved_keeps}
use Rattle.vale_heap.proofs.heap.Heap.merge.Goals as goal

pub rehome-requires : goal.rehome-requires
rehome-requires c =
    let inv = c.loop-frame.invariant.0 in
    let now = c.loop-frame.self in
    let inner : c.self.inside.regions - 1 ≡ innermost now = ap innermost c.self.view_is ∙ ap (λ n. n - 1) (sym inv.regions) in
    subst (λ n. IsMovable now c.in-Some.frame (Open n)) (sym inner) (can_merge now c.in-Some.frame c.args.iso c.first_beside.ensures.sound inv.root c.in-Some.ensures.some.0 c.in-Some.ensures.some.1)

pub loop-frame-preserved : goal.loop-frame-preserved
loop-frame-preserved c =
    let inv = c.loop-frame.invariant.0 in
    let now = c.loop-frame.self in
    let inner : c.self.inside.regions - 1 ≡ innermost c.args.self.now = ap innermost c.self.view_is in
    let is = c.rehome.ensures ∙ ap (λ n. with_moved now c.in-Some.frame (Open n)) inner in (
      subst (λ h. IsMerging c.args.self.now h c.args.iso) (sym is) (merging_goes c.args.self.now now c.in-Some.frame c.args.iso inv c.in-Some.ensures.some.0 c.in-Some.ensures.some.1),
      ap Open inner,
    )

pub rehome-requires-2 : goal.rehome-requires-2
rehome-requires-2 c =
    let inv = c.loop-frame.invariant.0 in
    let now = c.loop-frame.self in
    let inner : c.self.inside.regions - 1 ≡ innermost now = ap innermost c.self.view_is ∙ ap (λ n. n - 1) (sym inv.regions) in
    subst (λ n. IsMovable now c.args.iso.frame (Open n)) (sym inner) (can_merge_root now c.args.iso c.first_beside.ensures.sound inv.root c.in_default.ensures.none)

pub returns-clause-after : goal.returns-clause-after
returns-clause-after c =
    let inv = c.loop-frame.invariant.0 in
    let now = c.loop-frame.self in
    let inner : c.self.inside.regions - 1 ≡ innermost c.args.self.now = ap innermost c.self.view_is in
    c.rehome-2.ensures ∙ ap (λ n. with_moved now c.args.iso.frame (Open n)) inner ∙ merged_is c.args.self.now now c.args.iso inv c.in_default.ensures.none

pub returns-clause-stands : goal.returns-clause-stands
returns-clause-stands c =
    let inv = c.loop-frame.invariant.0 in
    let now = c.loop-frame.self in
    let inner : c.self.inside.regions - 1 ≡ innermost now = ap innermost c.self.view_is ∙ ap (λ n. n - 1) (sym inv.regions) in
    let can : IsMovable now c.args.iso.frame (Open (c.self.inside.regions - 1)) =
    subst (λ n. IsMovable now c.args.iso.frame (Open n)) (sym inner) (can_merge_root now c.args.iso c.first_beside.ensures.sound inv.root c.in_default.ensures.none) in
    let ok : IsHeap c.rehome-2.new.self = subst IsHeap (sym c.rehome-2.ensures) can.heap in
    iso_law c.args.self.now c.rehome-2.new.self c.args.iso ok c.requires (returns-clause-after c)

pub returns-clause-keeps : goal.returns-clause-keeps
returns-clause-keeps c = moved_keeps c.args.self.now c.rehome-2.new.self (Kept c.args.iso) (Open (innermost c.args.self.now)) (ap (λ (h : HeapState). h.seats) (returns-clause-after c))
