-- What a heap stands for after the calls that open and close regions.
use Rattle.std.proofs.Common.{◌≡◌, ◌≢◌, ◌⊎◌, ℕ, suc, ◌+◌, ◌-◌, ◌<◌, ◌≤◌, Bool, true, false, List, [], ◌∷◌, length, get_or, map, count_by, Option, Some, None, is_some, cond, refl, sym, ap, subst, ◌∙◌, inl, inr, arith}
use Rattle.std.specs.Option.{option_or, option_map}
use Rattle.std.proofs.lemmas.Bool.{cases_eq, cases_Bool, eqb-true, eq-eqb, ne_eqb}
use Rattle.std.proofs.lemmas.Option.{same_Some}
use Rattle.std.proofs.lemmas.List.{length-map, length-set, get_or-set_same, get_or-set_other}
use Rattle.std.proofs.lemmas.List.Sums.{sum_by-cons}
use Rattle.vale_page.specs.PageState.{PageState, generation_at, live_count}
use Rattle.vale_state_spec.specs.World.{Region, Isolate, World, region_eq, relabelled}
use Rattle.vale_heap.specs.declared.body.Place.{Place}
use Rattle.vale_heap.specs.declared.body.Body.{Body}
use Rattle.vale_heap.specs.declared.seat.Seat.{Seat}
use Rattle.vale_heap.specs.declared.seat.Home.{Home}
use Rattle.vale_heap.specs.declared.seat.Home.TheVariants.{Spare, Open, Kept}
use Rattle.vale_heap.specs.HeapState.{HeapState, seat_at, innermost, IsRoot, FitsHome, IsHeap, with_spare, with_region, without_region, with_merged, home_eq, rehomed, IsFor, NoneFor, ClearsPage, IsEmptied, IsClearedSeat, IsCleared, KeepsFrames}
use Rattle.vale_heap.specs.Standing.{IsRegion, StandsAt, Stands, around, home_within, seat_within, seats_of, seat_in, inner_freeze, outer_freeze, StandsSame, StandsMerged, StandsKept, StandsCleared, StandsIsoMerged}
use Rattle.vale_heap.proofs.PutLaws.{same_some}
use Rattle.vale_heap.proofs.HeapLaws.{heap_with_seat, root_home, open_kept, spare_kept, got_lt}
use Rattle.vale_heap.proofs.MoveLaws.{home_eq-refl, home_eq-true, agree_open, agree_kept, rehomed_some, rehome_stands, clear_stands}
use Rattle.vale_heap.proofs.RegionLaws.{seat_moved, fewer_with, pages_for}

-- ---- depths counted from the outermost region of the heap below

same_bool : (a b : Bool) → (a ≡ true → b ≡ true) → (b ≡ true → a ≡ true) → a ≡ b
same_bool true true f g = refl
same_bool false false f g = refl
same_bool true false f g = sym (f refl)
same_bool false true f g = g refl

shift_eq : (base : ℕ) (home other : Home) → home_eq (home_within base home) (home_within base other) ≡ home_eq home other
shift_eq base Spare Spare = refl
shift_eq base Spare (Open b) = refl
shift_eq base Spare (Kept q) = refl
shift_eq base (Open a) Spare = refl
shift_eq base (Open a) (Open b) =
    same_bool _ _ (λ e. let same = eqb-true (base + a) (base + b) e in eq-eqb a b (omega (arith, same))) (λ e. let same = eqb-true a b e in eq-eqb (base + a) (base + b) (omega (arith, same)))
shift_eq base (Open a) (Kept q) = refl
shift_eq base (Kept p) Spare = refl
shift_eq base (Kept p) (Open b) = refl
shift_eq base (Kept p) (Kept q) = refl

within_cond : (base : ℕ) (b : Bool) (x y : Home) → home_within base (cond b x y) ≡ cond b (home_within base x) (home_within base y)
within_cond base true x y = refl
within_cond base false x y = refl

seat_in_moved : (base : ℕ) (o below : Option Seat) (from to : Home) → below ≡ rehomed (home_within base from) (home_within base to) below →
    option_or (option_map (seat_within base) (rehomed from to o)) below ≡ rehomed (home_within base from) (home_within base to) (option_or (option_map (seat_within base) o) below)
seat_in_moved base None below from to same = same
seat_in_moved base (Some s) below from to same =
    ap (λ home. Some (record s { home = home })) (within_cond base (home_eq s.home from) to s.home)
    ∙ ap (λ b. Some (record s { home = cond b (home_within base to) (home_within base s.home) })) (sym (shift_eq base s.home from))

-- no page below is for this
abbrev NoneBelow : Option HeapState → Home → Type 0
NoneBelow below home = (frame : ℕ) (seat : Seat) → seats_of below frame ≡ Some seat → home_eq seat.home home ≡ false

below_same : (o : Option Seat) (from to : Home) → ((seat : Seat) → o ≡ Some seat → home_eq seat.home from ≡ false) → o ≡ rehomed from to o
below_same None from to none = refl
below_same (Some s) from to none = ap (λ b. Some (record s { home = cond b to s.home })) (sym (none s refl))

open_none_below : (below : Option HeapState) (depth : ℕ) → ((other : HeapState) → below ≡ Some other → IsHeap other) → NoneBelow below (Open (around below + depth))
open_none_below None depth ok frame seat at = absurd (cc)
open_none_below (Some other) depth ok frame seat at = by_home seat.home ((ok other refl).seats_ok frame seat at).fits
  where
    by_home : (home : Home) → FitsHome other.regions (live_count seat.page) home → home_eq home (Open (other.regions + depth)) ≡ false
    by_home Spare fits = refl
    by_home (Open d) fits = ne_eqb d (other.regions + depth) (λ e. omega (arith, fits.0, e))
    by_home (Kept root) fits = refl

kept_none_below : (heap : HeapState) (below : Option HeapState) (iso : Place) → ((other : HeapState) → below ≡ Some other → IsHeap other) → ((f : ℕ) (s other : Seat) → seat_at heap f ≡ Some s → seats_of below f ≡ Some other → ⊥) → IsRoot heap iso → NoneBelow below (Kept iso)
kept_none_below heap None iso ok distinct root frame seat at = absurd (cc)
kept_none_below heap (Some under) iso ok distinct root frame seat at = elim (cases_Bool (home_eq seat.home (Kept iso))) [
  | inr other ↦ other
  | inl same ↦ absurd (let there = (ok under refl).roots frame seat iso at (home_eq-true seat.home (Kept iso) same) in distinct iso.frame root.seat there.seat root.there there.there)
]

-- ---- pages that are for something else

moved_law : (old new : HeapState) (from to : Home) (rfrom rto : Region) (below : Option HeapState) (low : ℕ → ℕ → ℕ) (away : ℕ → Bool) (names : List Place) (world : World) →
    IsHeap new → new.seats ≡ map (rehomed from to) old.seats → Stands old below low away names world → NoneBelow below (home_within (around below) from) →
    ((home : Home) (region : Region) → IsRegion names home region → home_eq home (home_within (around below) from) ≡ region_eq region rfrom) → IsRegion names (home_within (around below) to) rto →
    Stands new below low away names (relabelled rfrom rto world)
moved_law old new from to rfrom rto below low away names world ok are stood none agree lands = record {
  heap_ok = ok;
  below_ok = stood.below_ok;
  distinct = λ f s other e at. let was = rehomed_some from to (get_or old.seats f None) s (sym (seats f) ∙ e) in stood.distinct f was.0 other was.1 at;
  at = rehome_stands (seat_in old below) (seat_in new below) low away names world (home_within (around below) from) (home_within (around below) to) rfrom rto stood.at
      (λ f. ap (λ o. option_or (option_map (seat_within (around below)) o) (seats_of below f)) (seats f)
      ∙ seat_in_moved (around below) (seat_at old f) (seats_of below f) from to (below_same (seats_of below f) (home_within (around below) from) (home_within (around below) to) (none f)))
      agree lands;
}
  where
    seats : (f : ℕ) → seat_at new f ≡ rehomed from to (seat_at old f)
    seats f = ap (λ xs. get_or xs f None) are ∙ seat_moved old.seats from to f

pub merged_law : (old new : HeapState) → IsHeap new → new ≡ without_region old (Open (innermost old - 1)) → StandsMerged old new
merged_law old new ok is below low away names world stood =
    moved_law old new (Open (innermost old)) (Open (innermost old - 1)) (inner_freeze old below) (outer_freeze old below) below low away names world ok (ap (λ (h : HeapState). h.seats) is) stood
    (open_none_below below (innermost old) stood.below_ok) (agree_open names (around below + innermost old)) refl

pub kept_law : (old new : HeapState) (root : Place) → IsHeap new → new ≡ without_region old (Kept root) → StandsKept old new root
kept_law old new root ok is below low away names world name stood has =
    moved_law old new (Open (innermost old)) (Kept root) (inner_freeze old below) (Isolate name) below low away names world ok (ap (λ (h : HeapState). h.seats) is) stood
    (open_none_below below (innermost old) stood.below_ok) (agree_open names (around below + innermost old)) has

pub iso_law : (old new : HeapState) (iso : Place) → IsHeap new → IsRoot old iso → new ≡ with_merged old iso → StandsIsoMerged old new iso
iso_law old new iso ok root is below low away names world name stood has =
    moved_law old new (Kept iso) (Open (innermost old)) (Isolate name) (inner_freeze old below) below low away names world ok (ap (λ (h : HeapState). h.seats) is) stood
    (kept_none_below old below iso stood.below_ok stood.distinct root) (agree_kept names iso name stood.at.apart has) refl

pub opened_law : (old new : HeapState) → IsHeap new → new ≡ with_region old → StandsSame old new
opened_law old new ok is below low away names world stood = record {
  heap_ok = ok;
  below_ok = stood.below_ok;
  distinct = λ f s other e at. stood.distinct f s other (sym (ap (λ h. seat_at h f) is) ∙ e) at;
  at = subst (λ h. StandsAt (seat_in h below) low away names world) (sym is) stood.at;
}

-- ---- the objects of a region die

cleared_seat : (base inner : ℕ) (old new below : Option Seat) → IsClearedSeat (Open inner) old new → ((seat : Seat) → below ≡ Some seat → home_eq seat.home (Open (base + inner)) ≡ false) →
    IsClearedSeat (Open (base + inner)) (option_or (option_map (seat_within base) old) below) (option_or (option_map (seat_within base) new) below)
cleared_seat base inner None new below is none = subst (λ o. IsClearedSeat (Open (base + inner)) below (option_or (option_map (seat_within base) o) below)) (sym is) (by_below below none)
  where
    by_below : (o : Option Seat) → ((seat : Seat) → o ≡ Some seat → home_eq seat.home (Open (base + inner)) ≡ false) → IsClearedSeat (Open (base + inner)) o o
    by_below None none = refl
    by_below (Some s) none = inl (none s refl, refl)
cleared_seat base inner (Some s) new below (inl same) none =
    inl (shift_eq base s.home (Open inner) ∙ same.0, ap (λ o. option_or (option_map (seat_within base) o) below) same.1)
cleared_seat base inner (Some s) new below (inr emptied) none =
    inr (shift_eq base s.home (Open inner) ∙ emptied.0, emptied.1, ap (λ o. option_or (option_map (seat_within base) o) below) emptied.2, emptied.3)

-- a page that is there was there, with no greater generation
was_there : (of : Home) (old new : Option Seat) (seat : Seat) → IsClearedSeat of old new → new ≡ Some seat → (was : Seat) × (old ≡ Some was) × ((slot : ℕ) → slot < 64 → generation_at was.page slot ≤ generation_at seat.page slot)
was_there of None new seat is e = absurd (let clash : None ≡ Some seat = sym is ∙ e in cc)
was_there of (Some was) new seat (inl same) e = (was, refl, λ slot h. let g : generation_at was.page slot ≡ generation_at seat.page slot = ap (λ (s : Seat). generation_at s.page slot) (same_Some _ _ (sym same.1 ∙ e)) in omega (arith, g))
was_there of (Some was) new seat (inr emptied) e = (
  was,
  refl,
  λ slot h.
      let g : generation_at emptied.1 slot ≡ generation_at seat.page slot = ap (λ (s : Seat). generation_at s.page slot) (same_Some _ _ (sym emptied.2 ∙ e)) in
      let rising = emptied.3.rising slot h in
      omega (arith, g, rising),
)

pub cleared_law : (old new : HeapState) → IsHeap new → IsCleared old new → StandsCleared old new
cleared_law old new ok is below low away names world stood = record {
  heap_ok = ok;
  below_ok = stood.below_ok;
  distinct = λ f s other e at. let was = was_there (Open (innermost old)) (seat_at old f) (seat_at new f) s (is.each f) e in stood.distinct f was.0 other was.1 at;
  at = clear_stands (seat_in old below) (seat_in new below) low away names world (Open (around below + innermost old)) (inner_freeze old below) stood.at
      (λ f. cleared_seat (around below) (innermost old) (seat_at old f) (seat_at new f) (seats_of below f) (is.each f) (open_none_below below (innermost old) stood.below_ok f))
      (agree_open names (around below + innermost old));
}

-- ---- what a lender knows and holds

keeps_by : (old new : HeapState) → length new.seats ≡ length old.seats →
    ((f : ℕ) (s : Seat) → seat_at new f ≡ Some s → (was : Seat) × (seat_at old f ≡ Some was) × ((slot : ℕ) → slot < 64 → generation_at was.page slot ≤ generation_at s.page slot)) → KeepsFrames old new
keeps_by old new long each = record {
  as_long = long;
  known = λ out known f s e. let was = each f s e in known f was.0 was.1;
  of_hand = λ hand ok f s e.
      let was = each f s e in
      let held = ok f was.0 was.1 in
      (held.0, held.1, λ slot h. let a = held.2 slot h in let b = was.2 slot h in omega (arith, a, b));
}

pub moved_keeps : (old new : HeapState) (from to : Home) → new.seats ≡ map (rehomed from to) old.seats → KeepsFrames old new
moved_keeps old new from to are =
    keeps_by old new (ap length are ∙ length-map old.seats (rehomed from to)) (λ f s e.
    let was = rehomed_some from to (get_or old.seats f None) s (sym (ap (λ xs. get_or xs f None) are ∙ seat_moved old.seats from to f) ∙ e) in
    (was.0, was.1, λ slot h. let g : generation_at was.0.page slot ≡ generation_at s.page slot = ap (λ (x : Seat). generation_at x.page slot) was.2 in omega (arith, g)))

pub cleared_keeps : (old new : HeapState) → IsCleared old new → KeepsFrames old new
cleared_keeps old new is = keeps_by old new is.as_long (λ f s e. was_there (Open (innermost old)) (seat_at old f) (seat_at new f) s (is.each f) e)

pub opened_keeps : (old new : HeapState) → new ≡ with_region old → KeepsFrames old new
opened_keeps old new is = subst (KeepsFrames old) (sym is) (record { as_long = refl; known = λ out known. known; of_hand = λ hand ok. ok })

-- ---- one page loses its objects

none_counts : (bs : List (Option Body)) → ((k : ℕ) → get_or bs k None ≡ None) → count_by is_some bs ≡ 0
none_counts [] none = refl
none_counts (Some b ∷ bs) none = absurd (let clash = none 0 in cc)
none_counts (None ∷ bs) none = let later = none_counts bs (λ k. none (suc k)) in omega (arith, later, sum_by-cons (λ o. cond (is_some o) 1 0) None bs)

pub heap_cleared : (h : HeapState) (frame region : ℕ) (page : PageState Body) (is : IsFor (Open region) (seat_at h frame)) → IsHeap h → IsEmptied is.0.page page → IsHeap (with_spare h frame page)
heap_cleared h frame region page is ok emptied = heap_with_seat h frame (record { page = page; home = Spare }) (record {
  heap = ok;
  within = got_lt h.seats frame is.0 is.1;
  seat = record { of = emptied.frame ∙ (ok.seats_ok frame is.0 is.1).of; page = emptied.page; fits = none_counts page.bodies emptied.empty };
  rooted = λ root e. absurd (spare_kept root e);
  keeps = λ root f s here at _ _ _. absurd (open_kept region root (sym is.2 ∙ root_home h root is.0 at (ap (seat_at h) here ∙ is.1)));
})

-- ---- the innermost region loses its objects, page after page

-- a page is as it was, or it was of the region and lost its objects
abbrev pub IsPartCleared : Home → Option Seat → Option Seat → Type 0
IsPartCleared of old now = (now ≡ old) ⊎ ((seat : Seat) × (old ≡ Some seat) × (seat.home ≡ of) × (page : PageState Body) × (now ≡ Some (record { page = page; home = Spare })) × IsEmptied seat.page page)

pub record IsClearing (old now : HeapState) : Type 0 where
  pub as_long : length now.seats ≡ length old.seats
  pub each : (frame : ℕ) → IsPartCleared (Open (innermost old)) (seat_at old frame) (seat_at now frame)
  pub regions : now.regions ≡ old.regions
  pub depth : now.depth ≡ old.depth

pub clearing_starts : (h : HeapState) → IsClearing h h
clearing_starts h = record { as_long = refl; each = λ f. inl refl; regions = refl; depth = refl }

spare_open : (depth : ℕ) → Spare ≢ Open depth
spare_open depth e = cc

part_goes : (of : Home) (old now : Option Seat) (seat : Seat) (page : PageState Body) → Spare ≢ of → IsPartCleared of old now → now ≡ Some seat → seat.home ≡ of → IsEmptied seat.page page → IsPartCleared of old (Some (record { page = page; home = Spare }))
part_goes of old now seat page apart (inl same) there home emptied = inr (seat, sym same ∙ there, home, page, refl, emptied)
part_goes of old now seat page apart (inr was) there home emptied =
    absurd (apart (ap (λ (s : Seat). s.home) (same_Some _ _ (sym was.4 ∙ there)) ∙ home))

pub clearing_goes : (old now next : HeapState) (frame : ℕ) → IsClearing old now → IsFor (Open (innermost old)) (seat_at now frame) → ClearsPage now next frame → IsClearing old next
clearing_goes old now next frame is for clears = record {
  as_long = ap (λ (h : HeapState). length h.seats) clears.now ∙ length-set now.seats frame (Some (record { page = clears.page; home = Spare })) ∙ is.as_long;
  each = λ f. subst (λ o. IsPartCleared (Open (innermost old)) (seat_at old f) o) (sym (ap (λ h. seat_at h f) clears.now)) (elim (cases_eq f frame) [
    | inr apart ↦ subst (λ o. IsPartCleared (Open (innermost old)) (seat_at old f) o) (sym (get_or-set_other now.seats frame f (Some (record { page = clears.page; home = Spare })) None apart)) (is.each f)
    | inl same ↦
        let home : clears.seat.home ≡ Open (innermost old) = ap (λ (s : Seat). s.home) (same_some _ _ _ clears.there for.1) ∙ for.2 in
        let here : seat_at (with_spare now frame clears.page) f ≡ Some (record { page = clears.page; home = Spare }) = ap (seat_at (with_spare now frame clears.page)) same ∙ get_or-set_same now.seats frame (Some (record { page = clears.page; home = Spare })) None (got_lt now.seats frame clears.seat clears.there) in
        subst (λ o. IsPartCleared (Open (innermost old)) (seat_at old f) o) (sym here)
        (part_goes (Open (innermost old)) (seat_at old f) (seat_at now f) clears.seat clears.page (spare_open (innermost old)) (is.each f) (ap (seat_at now) same ∙ clears.there) home clears.emptied)
  ]);
  regions = ap (λ (h : HeapState). h.regions) clears.now ∙ is.regions;
  depth = ap (λ (h : HeapState). h.depth) clears.now ∙ is.depth;
}

pub fewer_cleared : (now next : HeapState) (frame region : ℕ) → IsFor (Open region) (seat_at now frame) → ClearsPage now next frame → pages_for (Open region) next < pages_for (Open region) now
fewer_cleared now next frame region for clears =
    subst (λ h. pages_for (Open region) h < pages_for (Open region) now) (sym clears.now) (fewer_with now frame (Open region) (Some (record { page = clears.page; home = Spare })) for refl)

part_all : (of : Home) (old now : Option Seat) → IsPartCleared of old now → (IsFor of now → ⊥) → IsClearedSeat of old now
part_all of None now (inl same) none = same
part_all of None now (inr was) none = absurd (let clash = was.1 in cc)
part_all of (Some s) now (inl same) none = elim (cases_Bool (home_eq s.home of)) [
  | inr apart ↦ inl (apart, same)
  | inl is ↦ absurd (none (s, same, home_eq-true s.home of is))
]
part_all of (Some s) now (inr was) none =
    let one : was.0 ≡ s = same_Some _ _ (sym was.1) in
    inr (home_eq-refl s.home of (ap (λ (x : Seat). x.home) (sym one) ∙ was.2), was.3, was.4, subst (λ (x : Seat). IsEmptied x.page was.3) one was.5)

pub cleared_is : (old now new : HeapState) → IsClearing old now → NoneFor (Open (innermost old)) now → new ≡ record now { regions = innermost now } → IsCleared old new
cleared_is old now new is none closed = record {
  as_long = ap (λ (h : HeapState). length h.seats) closed ∙ is.as_long;
  each = λ f. subst (λ o. IsClearedSeat (Open (innermost old)) (seat_at old f) o) (sym (ap (λ h. seat_at h f) closed)) (part_all (Open (innermost old)) (seat_at old f) (seat_at now f) (is.each f) (none f));
  regions = ap (λ (h : HeapState). h.regions) closed ∙ ap (λ n. n - 1) is.regions;
  depth = ap (λ (h : HeapState). h.depth) closed ∙ is.depth;
}
