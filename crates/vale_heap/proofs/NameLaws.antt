-- What a caller knows of a place by its name: when a place is the root of an isolate of the heap, and when it is in the innermost
-- region.
use Rattle.std.proofs.Common.{◌≡◌, ◌≢◌, ℕ, ◌+◌, Bool, List, Option, Some, None, refl, sym, ap, subst, ◌∙◌, arith}
use Rattle.std.specs.Prelude.{slice_get}
use Rattle.std.specs.Option.{option_or, option_map}
use Rattle.vale_page.specs.PageState.{body_at, generation_at, live_count}
use Rattle.vale_page.proofs.PageLaws.{at_body, at_generation}
use Rattle.vale_state_spec.specs.World.{Region, Freeze, Isolate, Object, World, Lives}
use Rattle.vale_heap.specs.declared.body.Place.{Place}
use Rattle.vale_heap.specs.declared.seat.Seat.{Seat}
use Rattle.vale_heap.specs.declared.seat.Home.{Home}
use Rattle.vale_heap.specs.declared.seat.Home.TheVariants.{Spare, Open, Kept}
use Rattle.vale_heap.specs.HeapState.{HeapState, seat_at, innermost, LivesIn, IsRoot, FitsHome}
use Rattle.vale_heap.specs.Standing.{HasPlace, IsRegion, Holds, Stands, around, home_within, seat_within, seats_of, seat_in, inner_freeze}
use Rattle.vale_heap.proofs.PutLaws.{same_some, same_place}

-- the heap's own page of a frame, as it is with what is below
own_seat : (heap : HeapState) (below : Option HeapState) (frame : ℕ) (seat : Seat) → seat_at heap frame ≡ Some seat → seat_in heap below frame ≡ Some (seat_within (around below) seat)
own_seat heap below frame seat there = ap (λ o. option_or (option_map (seat_within (around below)) o) (seats_of below frame)) there

root_region : (names : List Place) (root : Place) (region : Region) → IsRegion names (Kept root) region → (name : ℕ) × HasPlace names name root × (region ≡ Isolate name)
root_region names root (Freeze at) is = absurd is
root_region names root (Isolate name) is = (name, is, refl)

-- the place of a name is no root, where the name isn't alive as the root of its isolate
pub no_root_law : (heap : HeapState) (below : Option HeapState) (low : ℕ → ℕ → ℕ) (away : ℕ → Bool) (names : List Place) (world : World) (name : ℕ) (at : Place) →
    Stands heap below low away names world → HasPlace names name at → ((object : Object) → Lives world name object → object.region ≢ Isolate name) → IsRoot heap at → ⊥
no_root_law heap below low away names world name at stood has apart root =
    let there = own_seat heap below at.frame root.seat root.there in
    let body = at_body root.seat.page at.slot at.generation root.body root.at in
    let n = stood.at.named at.frame at.slot (seat_within (around below) root.seat) root.body (stood.at.in_page name at has) there body in
    let place : HasPlace names n.name at = n.place ∙ ap (λ p. Some p) (sym (same_place at at.frame at.slot (generation_at root.seat.page at.slot) refl refl (sym (at_generation root.seat.page at.slot at.generation root.body root.at)))) in
    let one : n.name ≡ name = stood.at.apart n.name name at place has in
    let lives : Lives world name n.object = ap (slice_get world) (sym one) ∙ n.lives in
    let h = stood.at.live name at n.object has lives in
    let home : h.seat.home ≡ Kept at = ap (λ (s : Seat). s.home) (same_some _ _ _ h.there there) ∙ ap (home_within (around below)) root.home_is in
    let region = root_region names at n.object.region (subst (λ x. IsRegion names x n.object.region) home h.region) in
    apart n.object lives (region.2 ∙ ap Isolate (stood.at.apart region.0 name at region.1 has))

-- the place of a name is a root, where the name is alive as the root of its isolate in a page of this heap
pub is_root_law : (heap : HeapState) (below : Option HeapState) (low : ℕ → ℕ → ℕ) (away : ℕ → Bool) (names : List Place) (world : World) (name : ℕ) (at : Place) (object : Object) (seat : Seat) →
    Stands heap below low away names world → HasPlace names name at → Lives world name object → object.region ≡ Isolate name → seat_at heap at.frame ≡ Some seat → IsRoot heap at
is_root_law heap below low away names world name at object seat stood has lives is there =
    let h = stood.at.live name at object has lives in
    let same : h.seat ≡ seat_within (around below) seat = same_some _ _ _ h.there (own_seat heap below at.frame seat there) in
    record {
      seat = seat;
      there = there;
      home_is = by_home seat.home (subst (λ x. IsRegion names (home_within (around below) seat.home) x) is (subst (λ (s : Seat). IsRegion names s.home object.region) same h.region));
      body = h.body;
      at = ap (λ (s : Seat). body_at s.page at.slot at.generation) (sym same) ∙ h.at;
    }
  where
    by_home : (home : Home) → IsRegion names (home_within (around below) home) (Isolate name) → home ≡ Kept at
    by_home Spare is = absurd is
    by_home (Open depth) is = absurd is
    by_home (Kept root) is = ap Kept (same_some root at _ is has)

-- the place of a name is in the innermost region's pages, where its object is of that region
pub inner_law : (heap : HeapState) (below : Option HeapState) (low : ℕ → ℕ → ℕ) (away : ℕ → Bool) (names : List Place) (world : World) (name : ℕ) (at : Place) (object : Object) →
    Stands heap below low away names world → HasPlace names name at → Lives world name object → object.region ≡ inner_freeze heap below → LivesIn heap (Open (innermost heap)) at
inner_law heap below low away names world name at object stood has lives is = by_seat (seat_at heap at.frame) refl
  where
    h : Holds (seat_in heap below) names at object
    h = stood.at.live name at object has lives

    by_home : (home : Home) → IsRegion names (home_within (around below) home) (inner_freeze heap below) → home ≡ Open (innermost heap)
    by_home Spare is = absurd is
    by_home (Open depth) is = ap Open (omega (arith, is))
    by_home (Kept root) is = absurd is

    -- what is below is of smaller depth
    not_below : (other : Option HeapState) (seat : Seat) → below ≡ other → seats_of other at.frame ≡ Some seat → IsRegion names seat.home (Freeze (around other + innermost heap)) → ⊥
    not_below None seat e there is = cc
    not_below (Some under) seat e there is = by_fits seat.home ((stood.below_ok under e).seats_ok at.frame seat there).fits is
      where
        by_fits : (home : Home) → FitsHome under.regions (live_count seat.page) home → IsRegion names home (Freeze (under.regions + innermost heap)) → ⊥
        by_fits Spare fits is = is
        by_fits (Open depth) fits is = omega (arith, fits.0, is)
        by_fits (Kept root) fits is = is

    by_seat : (o : Option Seat) → seat_at heap at.frame ≡ o → LivesIn heap (Open (innermost heap)) at
    by_seat None e = absurd (
        let there : seats_of below at.frame ≡ Some h.seat = sym (ap (λ o. option_or (option_map (seat_within (around below)) o) (seats_of below at.frame)) e) ∙ h.there in
        not_below below h.seat refl there (subst (λ r. IsRegion names h.seat.home r) is h.region))
    by_seat (Some seat) e =
        let same : h.seat ≡ seat_within (around below) seat = same_some _ _ _ h.there (own_seat heap below at.frame seat e) in
        record {
          seat = seat;
          there = e;
          home_is = by_home seat.home (subst (λ r. IsRegion names (home_within (around below) seat.home) r) is (subst (λ (s : Seat). IsRegion names s.home object.region) same h.region));
          body = h.body;
          at = ap (λ (s : Seat). body_at s.page at.slot at.generation) (sym same) ∙ h.at;
        }
