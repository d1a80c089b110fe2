use Rattle.std.proofs.Common.{◌≡◌, ◌≢◌, ◌-◌, sym, ◌∙◌, ap, subst, arith}
use Rattle.vale_heap.specs.declared.seat.Home.TheVariants.{Open}
use Rattle.vale_heap.specs.HeapState.{HeapState, IsFor, NoneFor, seat_at, innermost}
use Rattle.vale_heap.proofs.RegionLaws.{emptying_starts, emptying_goes, emptied_is, can_exit, fewer_moved, exit_apart}
use Rattle.vale_heap.proofs.heap.Heap.empty_region.Goals as goal

pub loop-frame-init : goal.loop-frame-init
loop-frame-init c = (emptying_starts c.args.self.now c.args.to c.requires, ap innermost c.self.view_is)

pub first_open-requires : goal.first_open-requires
first_open-requires c =
    let some = c.self.invariant.heap.some_open in
    let same = c.loop-frame.invariant.0.regions in
    let inside = ap (λ (h : HeapState). h.regions) c.self.view_is in
    omega (arith, some, same, inside)

pub rehome-requires : goal.rehome-requires
rehome-requires c =
    let inv = c.loop-frame.invariant in
    let now = c.loop-frame.self in
    let inner : c.self.inside.regions - 1 ≡ innermost now = inv.1 ∙ ap (λ n. n - 1) (sym inv.0.regions) in
    let page : IsFor (Open (innermost now)) (seat_at now c.in-Some.frame) = subst (λ n. IsFor (Open n) (seat_at now c.in-Some.frame)) inner c.in-Some.ensures.some in
    can_exit now c.in-Some.frame c.args.to c.first_open.ensures.sound inv.0.exit page

pub loop-frame-smaller : goal.loop-frame-smaller
loop-frame-smaller c =
    let inv = c.loop-frame.invariant in
    let now = c.loop-frame.self in
    let inner : c.self.inside.regions - 1 ≡ innermost now = inv.1 ∙ ap (λ n. n - 1) (sym inv.0.regions) in
    let apart : c.args.to ≢ Open (c.self.inside.regions - 1) = subst (λ n. c.args.to ≢ Open n) (sym inner) (exit_apart now c.args.to inv.0.exit) in
    rw c.rehome.ensures (fewer_moved now c.in-Some.frame (Open (c.self.inside.regions - 1)) c.args.to c.in-Some.ensures.some apart)

pub loop-frame-preserved : goal.loop-frame-preserved
loop-frame-preserved c =
    let inv = c.loop-frame.invariant in
    let now = c.loop-frame.self in
    let inner : c.self.inside.regions - 1 ≡ innermost now = inv.1 ∙ ap (λ n. n - 1) (sym inv.0.regions) in
    let page : IsFor (Open (innermost now)) (seat_at now c.in-Some.frame) = subst (λ n. IsFor (Open n) (seat_at now c.in-Some.frame)) inner c.in-Some.ensures.some in
    (rw c.rehome.ensures (emptying_goes c.args.self.now now c.in-Some.frame c.args.to inv.0 page), inv.1)

pub returns-clause-after : goal.returns-clause-after
returns-clause-after c =
    let inv = c.loop-frame.invariant in
    emptied_is c.args.self.now c.loop-frame.self c.args.to inv.0 (subst (λ n. NoneFor (Open n) c.loop-frame.self) inv.1 c.in_default.ensures.none)

pub returns-clause-none : goal.returns-clause-none
returns-clause-none c =
    let inv = c.loop-frame.invariant in
    subst (λ n. NoneFor (Open n) c.loop-frame.self) inv.1 c.in_default.ensures.none
