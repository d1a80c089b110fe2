-- What a heap stands for after each of its calls.
use Rattle.std.proofs.Common.{◌≡◌, ◌⊎◌, ℕ, ◌+◌, ◌<◌, ◌≤◌, Bool, true, false, List, [], ◌∷◌, ◌++◌, length, Option, Some, None, cond, refl, sym, ap, subst, ◌∙◌, inl, inr, arith, nat_eq}
use Rattle.std.specs.Option.{option_or, option_map}
use Rattle.std.specs.Prelude.{IsSome}
use Rattle.std.proofs.lemmas.Bool.{cases_eq, eqb-true}
use Rattle.std.proofs.lemmas.List.{get_or-set_same, get_or-set_other}
use Rattle.vale_page.specs.PageState.{PageState, IsBlankAt, body_of, body_at, live_count, with_body, after_death}
use Rattle.vale_page.proofs.PageLaws.{at_body, no_body}
use Rattle.vale_state_spec.specs.World.{Value, Object, World, born, died, written}
use Rattle.vale_heap.specs.declared.body.Place.{Place}
use Rattle.vale_heap.specs.declared.body.Body.{Body}
use Rattle.vale_heap.specs.declared.seat.Seat.{Seat}
use Rattle.vale_heap.specs.declared.seat.Home.{Home}
use Rattle.vale_heap.specs.declared.seat.Home.TheVariants.{Spare, Open, Kept}
use Rattle.vale_heap.specs.HeapState.{HeapState, seat_at, body_in, look_in, innermost, IsRoot, FitsHome, IsHeap, serves, with_seat, with_spare, IsPut, IsEnded, KnowsFrames, Lent, IsMade}
use Rattle.vale_heap.specs.HeapLends.{with_written, changed}
use Rattle.vale_heap.specs.Standing.{DenoteAll, StandsAt, Stands, around, home_within, seat_within, seats_of, seat_in, inner_freeze, StandsMade, StandsEnded, StandsLooked, StandsFound, StandsChanged, LookMeans, HereMeans, look_over, KnowsBelow, KnowsAway, LowIsFloor}
use Rattle.vale_heap.proofs.PutLaws.{IsOneChange, put_stands}
use Rattle.vale_heap.proofs.EndLaws.{end_stands, spare_stands, look_law}
use Rattle.vale_heap.proofs.ChangeLaws.{write_stands}
use Rattle.vale_heap.proofs.HeapLaws.{heap_with_seat, heap_put, heap_ended, heap_spare, can_write, left_seat, got_lt}

-- ---- one page is another now: so it is with what is below

pub one_change : (h : HeapState) (below : Option HeapState) (frame : ℕ) (old new : Seat) → seat_at h frame ≡ Some old →
    IsOneChange (seat_in h below) (seat_in (with_seat h frame (Some new)) below) frame (seat_within (around below) old) (seat_within (around below) new)
one_change h below frame old new was = record {
  was = ap (λ o. option_or (option_map (seat_within (around below)) o) (seats_of below frame)) was;
  now = ap (λ o. option_or (option_map (seat_within (around below)) o) (seats_of below frame)) (get_or-set_same h.seats frame (Some new) None (got_lt h.seats frame old was));
  others = λ k apart. ap (λ o. option_or (option_map (seat_within (around below)) o) (seats_of below k)) (get_or-set_other h.seats frame k (Some new) None apart);
}

-- a frame of the heap is none of what is below
distinct_kept : (h : HeapState) (below : Option HeapState) (frame : ℕ) (o : Option Seat) → ((f : ℕ) (s other : Seat) → seat_at h f ≡ Some s → seats_of below f ≡ Some other → ⊥) → ((other : Seat) → seats_of below frame ≡ Some other → ⊥) →
    (f : ℕ) (s other : Seat) → seat_at (with_seat h frame o) f ≡ Some s → seats_of below f ≡ Some other → ⊥
distinct_kept h below frame o distinct here f s other e at = elim (cases_eq f frame) [
  | inl same ↦ here other (ap (seats_of below) (sym same) ∙ at)
  | inr apart ↦ distinct f s other (sym (get_or-set_other h.seats frame f o None apart) ∙ e) at
]

-- ---- an object is made

-- a page that serves is for the region, or has no object
homes_of : (regions live region base : ℕ) (home : Home) (page : PageState Body) → live ≡ live_count page → FitsHome regions live home → serves region home ≡ true → (home_within base home ≡ Open (base + region)) ⊎ ((slot : ℕ) → body_of page slot ≡ None)
homes_of regions live region base Spare page is fits serving = inr (λ slot. no_body page slot (sym is ∙ fits))
homes_of regions live region base (Open depth) page is fits serving = inl (ap (λ d. Open (base + d)) (eqb-true depth region serving))
homes_of regions live region base (Kept root) page is fits serving = absurd (cc)

pub put_law : (old new : HeapState) (body : Body) (place : Place) (below : Option HeapState) (low : ℕ → ℕ → ℕ) (away : ℕ → Bool) (names : List Place) (world : World) (values : List Value) →
    IsPut old new body place → Stands old below low away names world → DenoteAll names body.cells values →
    Stands new below low away (names ++ place ∷ []) (born world (record { region = inner_freeze old below; kind = body.kind; values = values }))
put_law old new body place below low away names world values put stood cells =
    let puts = put.puts in
    let seat = puts.seat in
    let ok = stood.heap_ok.seats_ok place.frame seat puts.was in
    let made : Seat = record { page = with_body seat.page place.slot body; home = Open (innermost old) } in
    let is : new ≡ with_seat old place.frame (Some made) = put.now ∙ ap (with_seat old place.frame) puts.now in
    record {
      heap_ok = heap_put old new body place stood.heap_ok put;
      below_ok = stood.below_ok;
      distinct = subst (λ h. (f : ℕ) (s other : Seat) → seat_at h f ≡ Some s → seats_of below f ≡ Some other → ⊥) (sym is)
          (distinct_kept old below place.frame (Some made) stood.distinct (λ other at. stood.distinct place.frame seat other puts.was at));
      at = subst (λ h. StandsAt (seat_in h below) low away (names ++ place ∷ []) (born world (record { region = inner_freeze old below; kind = body.kind; values = values }))) (sym is)
          (put_stands (seat_in old below) (seat_in (with_seat old place.frame (Some made)) below) low away names world place (seat_within (around below) seat) (Open (around below + innermost old)) body (record { region = inner_freeze old below; kind = body.kind; values = values }) (record {
            stood = stood.at;
            change = one_change old below place.frame seat made puts.was;
            page_ok = ok.page;
            free = puts.free;
            generation = puts.generation;
            homes = homes_of old.regions (live_count seat.page) (innermost old) (around below) seat.home seat.page refl ok.fits puts.serving;
            kind = refl;
            cells = cells;
            region = refl;
          }));
    }

-- a frame that isn't known to be out has no page
pub unknown_none : (h : HeapState) (frame : ℕ) (out : ℕ → Bool) → KnowsFrames h out → out frame ≡ false → seat_at h frame ≡ None
unknown_none h frame out known unknown = by_seat (seat_at h frame) refl
  where
    by_seat : (o : Option Seat) → seat_at h frame ≡ o → o ≡ None
    by_seat None e = refl
    by_seat (Some s) e = absurd (let clash : false ≡ true = sym unknown ∙ known frame s e in cc)

none_below : (below : Option HeapState) (frame : ℕ) (out : ℕ → Bool) → KnowsBelow below out → out frame ≡ false → seats_of below frame ≡ None
none_below below frame out known unknown = by_seat (seats_of below frame) refl
  where
    by_seat : (o : Option Seat) → seats_of below frame ≡ o → o ≡ None
    by_seat None e = refl
    by_seat (Some s) e = absurd (let clash : false ≡ true = sym unknown ∙ known frame s e in cc)

-- a page that comes by a claim
pub spare_law : (old : HeapState) (page : PageState Body) (frame base : ℕ) (below : Option HeapState) (low : ℕ → ℕ → ℕ) (away : ℕ → Bool) (names : List Place) (world : World) (out : ℕ → Bool) (floors : ℕ → ℕ) →
    IsBlankAt page frame base → out frame ≡ false → floors frame ≤ base → frame < length old.seats → KnowsFrames old out → KnowsBelow below out → KnowsAway away names out → LowIsFloor low out floors →
    Stands old below low away names world → Stands (with_spare old frame page) below low away names world
spare_law old page frame base below low away names world out floors blank unknown floor within known below_known away_known low_is stood =
    let none : seat_at old frame ≡ None = unknown_none old frame out known unknown in
    let none_under : seats_of below frame ≡ None = none_below below frame out below_known unknown in
    let spare : Seat = record { page = page; home = Spare } in
    record {
      heap_ok = heap_spare old frame base page stood.heap_ok within none blank;
      below_ok = stood.below_ok;
      distinct = distinct_kept old below frame (Some spare) stood.distinct (λ other at. let clash : None ≡ Some other = sym none_under ∙ at in cc);
      at = spare_stands (seat_in old below) (seat_in (with_spare old frame page) below) low away names world frame base page stood.at
          (ap (λ o. option_or (option_map (seat_within (around below)) o) (seats_of below frame)) none ∙ none_under)
          (ap (λ o. option_or (option_map (seat_within (around below)) o) (seats_of below frame)) (get_or-set_same old.seats frame (Some spare) None within))
          (λ k apart. ap (λ o. option_or (option_map (seat_within (around below)) o) (seats_of below k)) (get_or-set_other old.seats frame k (Some spare) None apart))
          blank (λ slot h. let at = low_is frame slot unknown in omega (arith, at, floor))
          (λ n p gone has e. let clash : false ≡ true = sym unknown ∙ ap out (sym e) ∙ away_known n p gone has in cc);
    }

pub made_law : (old new : HeapState) (lent : Lent) (body : Body) (place : Place) → lent.frames ≤ length old.seats → KnowsFrames old lent.out → IsMade old new lent body place → StandsMade old new lent.out lent.floors body place
made_law old new lent body place few known (inl made) below low away names world values stood cells below_known away_known low_is =
    put_law old new body place below low away names world values made.put stood cells
made_law old new lent body place few known (inr made) below low away names world values stood cells below_known away_known low_is =
    put_law (with_spare old place.frame made.page) new body place below low away names world values made.put
    (spare_law old made.page place.frame made.base below low away names world lent.out lent.floors made.claimed.blank made.claimed.unknown made.claimed.floor (omega (arith, made.claimed.within, few)) known below_known away_known low_is stood) cells

-- ---- an object ends

pub end_law : (old new : HeapState) (body : Body) (place : Place) → place.slot < 64 → (IsRoot old place → ⊥) → IsEnded old new body place → StandsEnded old new place
end_law old new body place within no_root ended below low away names world name stood has =
    let ends = ended.ends in
    let seat = ends.seat in
    let ok = stood.heap_ok.seats_ok place.frame seat ends.was in
    let left : Seat = left_seat seat place.slot in
    let is : new ≡ with_seat old place.frame (Some left) = ended.now ∙ ap (with_seat old place.frame) ends.now in
    record {
      heap_ok = heap_ended old new body place stood.heap_ok within no_root ended;
      below_ok = stood.below_ok;
      distinct = subst (λ h. (f : ℕ) (s other : Seat) → seat_at h f ≡ Some s → seats_of below f ≡ Some other → ⊥) (sym is)
          (distinct_kept old below place.frame (Some left) stood.distinct (λ other at. stood.distinct place.frame seat other ends.was at));
      at = subst (λ h. StandsAt (seat_in h below) low away names (died world name)) (sym is)
          (end_stands (seat_in old below) (seat_in (with_seat old place.frame (Some left)) below) low away names world place (seat_within (around below) seat) (home_within (around below) left.home) body name (record {
            stood = stood.at;
            change = one_change old below place.frame seat left ends.was;
            page_ok = ok.page;
            at = ends.at;
            homes = by_count (live_count left.page) refl;
            has = has;
          }));
    }
  where
    by_count : (n : ℕ) → live_count (after_death ended.ends.seat.page place.slot) ≡ n →
        (home_within (around below) ended.ends.seat.home ≡ home_within (around below) (cond (nat_eq n 0) Spare ended.ends.seat.home)) ⊎ ((slot : ℕ) → body_of (after_death ended.ends.seat.page place.slot) slot ≡ None)
    by_count n is = by_test (nat_eq n 0) refl
      where
        by_test : (b : Bool) → nat_eq n 0 ≡ b →
            (home_within (around below) ended.ends.seat.home ≡ home_within (around below) (cond b Spare ended.ends.seat.home)) ⊎ ((slot : ℕ) → body_of (after_death ended.ends.seat.page place.slot) slot ≡ None)
        by_test true e = inr (λ slot. no_body (after_death ended.ends.seat.page place.slot) slot (is ∙ eqb-true n 0 e))
        by_test false e = inl refl

-- ---- a look

body_within : (base : ℕ) (o other : Option Seat) (slot generation : ℕ) → body_in (option_or (option_map (seat_within base) o) other) slot generation ≡ body_in (option_or o other) slot generation
body_within base None other slot generation = refl
body_within base (Some seat) other slot generation = refl

pub looked_law : (heap : HeapState) (below : Option HeapState) (at : Place) (found : Option Body) → found ≡ look_over heap below at → StandsLooked heap below at found
looked_law heap below at found is low away names world name stood has =
    subst (λ o. LookMeans names world name o) (body_within (around below) (seat_at heap at.frame) (seats_of below at.frame) at.slot at.generation ∙ sym is)
    (look_law (seat_in heap below) low away names world name at stood.at has)

pub found_law : (heap : HeapState) (at : Place) (found : Option Body) → found ≡ look_in heap at → StandsFound heap at found
found_law heap at found is below low away names world name stood has = subst (HereMeans heap names world name at) (sym is) (by_seat (seat_at heap at.frame) refl)
  where
    looked : LookMeans names world name (body_in (seat_in heap below at.frame) at.slot at.generation)
    looked = look_law (seat_in heap below) low away names world name at stood.at has

    by_body : (o : Option Body) → LookMeans names world name o → HereMeans heap names world name at o
    by_body None dead = λ object lives. absurd (let clash : Some None ≡ Some (Some object) = sym dead ∙ lives in cc)
    by_body (Some body) means = means

    by_seat : (o : Option Seat) → seat_at heap at.frame ≡ o → HereMeans heap names world name at (body_in o at.slot at.generation)
    by_seat None e = λ object lives. e
    by_seat (Some seat) e = by_body (body_at seat.page at.slot at.generation)
        (subst (λ o. LookMeans names world name (body_in (option_or (option_map (seat_within (around below)) o) (seats_of below at.frame)) at.slot at.generation)) e looked)

-- ---- another body

-- a look that finds a body finds it in a page
pub looked_seat : (h : HeapState) (at : Place) → IsSome (look_in h at) → (seat : Seat) × (body : Body) × (seat_at h at.frame ≡ Some seat) × (body_at seat.page at.slot at.generation ≡ Some body)
looked_seat h at some = by_seat (seat_at h at.frame) refl some
  where
    by_seat : (o : Option Seat) → seat_at h at.frame ≡ o → IsSome (body_in o at.slot at.generation) → (seat : Seat) × (body : Body) × (seat_at h at.frame ≡ Some seat) × (body_at seat.page at.slot at.generation ≡ Some body)
    by_seat None e some = absurd (cc)
    by_seat (Some seat) e some = by_body (body_at seat.page at.slot at.generation) refl some
      where
        by_body : (o : Option Body) → body_at seat.page at.slot at.generation ≡ o → IsSome o → (s : Seat) × (body : Body) × (seat_at h at.frame ≡ Some s) × (body_at s.page at.slot at.generation ≡ Some body)
        by_body None e2 some = absurd (cc)
        by_body (Some body) e2 some = (seat, body, e, e2)

pub changed_law : (old : HeapState) (place : Place) (body : Body) → StandsChanged old place body
changed_law old place body below low away names world name object values some stood has lives cells =
    let found = looked_seat old place some in
    let seat = found.0 in
    let there = found.2 in
    let within = stood.at.in_page name place has in
    let body_there = at_body seat.page place.slot place.generation found.1 found.3 in
    let now : Seat = with_written seat place.slot body in
    let is : changed old place body ≡ with_seat old place.frame (Some now) = ap (λ o. with_seat old place.frame (option_map (λ s. with_written s place.slot body) o)) there in
    let new : Object = record { region = object.region; kind = body.kind; values = values } in
    record {
      heap_ok = subst IsHeap (sym is) (heap_with_seat old place.frame now (can_write old place.frame place.slot seat found.1 body stood.heap_ok within there body_there));
      below_ok = stood.below_ok;
      distinct = subst (λ h. (f : ℕ) (s other : Seat) → seat_at h f ≡ Some s → seats_of below f ≡ Some other → ⊥) (sym is)
          (distinct_kept old below place.frame (Some now) stood.distinct (λ other at. stood.distinct place.frame seat other there at));
      at = subst (λ h. StandsAt (seat_in h below) low away names (written world name (record { region = object.region; kind = body.kind; values = values }))) (sym is)
          (write_stands (seat_in old below) (seat_in (with_seat old place.frame (Some now)) below) low away names world place (seat_within (around below) seat) body name object new (record {
            stood = stood.at;
            change = one_change old below place.frame seat now there;
            has = has;
            lived = lives;
            kind = refl;
            cells = cells;
            region = refl;
          }));
    }
