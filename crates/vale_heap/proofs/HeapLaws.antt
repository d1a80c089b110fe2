-- Laws of a heap's pages: each page stays what it is for, and the roots of isolates stay live.
use Rattle.std.proofs.Common.{◌≡◌, ◌≢◌, ℕ, zero, suc, ◌<◌, Bool, true, false, List, length, get_or, set, Option, Some, None, is_some, cond, refl, sym, ap, subst, ◌∙◌, inl, inr, arith, nat_eq}
use Rattle.std.proofs.lemmas.Bool.{cases_eq, cases_lt, eqb-true, eqb-false, eq-eqb}
use Rattle.std.proofs.lemmas.Option.{same_Some}
use Rattle.std.proofs.lemmas.List.{length-set, get_or-set_same, get_or-set_other, get_or_past}
use Rattle.std.proofs.lemmas.List.Sums.{sum_by-set}
use Rattle.vale_page.specs.PageState.{PageState, IsPage, IsFree, IsBlankAt, body_of, body_at, generation_at, live_count, with_body, after_death}
use Rattle.vale_page.proofs.PageLaws.{at_body, at_generation, page_with_body, page_after_death, not_retired, no_body, some_live, after_body, after_frame, after_generation_other}
use Rattle.vale_heap.specs.declared.body.Place.{Place}
use Rattle.vale_heap.specs.declared.body.Body.{Body}
use Rattle.vale_heap.specs.declared.seat.Seat.{Seat}
use Rattle.vale_heap.specs.declared.seat.Home.{Home}
use Rattle.vale_heap.specs.declared.seat.Home.TheVariants.{Spare, Open, Kept}
use Rattle.vale_heap.specs.HeapState.{HeapState, seat_at, innermost, IsRoot, FitsHome, IsSeat, IsHeap, serves, with_seat, with_spare, IsPut, IsEnded, home_after, with_home}
use Rattle.vale_heap.specs.HeapLends.{with_written}
use Rattle.vale_heap.proofs.PutLaws.{same_some, same_place}

-- ---- one page is another now

-- what a write put in a list of options
pub set_some : {X : Type 0} (xs : List (Option X)) (i : ℕ) (o : Option X) (x : X) → get_or (set xs i o) i None ≡ Some x → o ≡ Some x
set_some xs i o x e = elim (cases_lt i (length xs)) [
  | inl h ↦ sym (get_or-set_same xs i o None h) ∙ e
  | inr h ↦ absurd (let clash : None ≡ Some x = sym (get_or_past (set xs i o) i None (omega (arith, length-set xs i o, h))) ∙ e in cc)
]

pub got_lt : {X : Type 0} (xs : List (Option X)) (i : ℕ) (x : X) → get_or xs i None ≡ Some x → i < length xs
got_lt xs i x e = elim (cases_lt i (length xs)) [
  | inl h ↦ h
  | inr h ↦ absurd (let clash : None ≡ Some x = sym (get_or_past xs i None h) ∙ e in cc)
]

-- a root whose page is elsewhere stays a root
pub root_elsewhere : (h : HeapState) (frame : ℕ) (o : Option Seat) (root : Place) → root.frame ≢ frame → IsRoot h root → IsRoot (with_seat h frame o) root
root_elsewhere h frame o root apart is = record {
  seat = is.seat;
  there = get_or-set_other h.seats frame root.frame o None apart ∙ is.there;
  home_is = is.home_is;
  body = is.body;
  at = is.at;
}

-- what it takes to put another page in the place of one
pub record CanSeat (h : HeapState) (frame : ℕ) (new : Seat) : Type 0 where
  pub heap : IsHeap h
  pub within : frame < length h.seats
  pub seat : IsSeat h.regions frame new
  -- the isolate of the new page has its root
  pub rooted : (root : Place) → new.home ≡ Kept root → IsRoot (with_seat h frame (Some new)) root
  -- an isolate whose root was in the old page keeps it, if there is another page of that isolate
  pub keeps : (root : Place) (f : ℕ) (s : Seat) → root.frame ≡ frame → IsRoot h root → f ≢ frame → seat_at h f ≡ Some s → s.home ≡ Kept root → IsRoot (with_seat h frame (Some new)) root

pub heap_with_seat : (h : HeapState) (frame : ℕ) (new : Seat) → CanSeat h frame new → IsHeap (with_seat h frame (Some new))
heap_with_seat h frame new can = record {
  seats_ok = λ f s e. elim (cases_eq f frame) [
    | inl same ↦
        let is : new ≡ s = same_Some _ _ (set_some h.seats frame (Some new) s (ap (λ x. get_or (set h.seats frame (Some new)) x None) (sym same) ∙ e)) in
        subst (λ x. IsSeat h.regions x s) (sym same) (subst (λ x. IsSeat h.regions frame x) is can.seat)
    | inr other ↦ can.heap.seats_ok f s (sym (get_or-set_other h.seats frame f (Some new) None other) ∙ e)
  ];
  roots = λ f s root e home. elim (cases_eq f frame) [
    | inl same ↦
        let is : new ≡ s = same_Some _ _ (set_some h.seats frame (Some new) s (ap (λ x. get_or (set h.seats frame (Some new)) x None) (sym same) ∙ e)) in
        can.rooted root (ap (λ (x : Seat). x.home) is ∙ home)
    | inr other ↦
        let there : seat_at h f ≡ Some s = sym (get_or-set_other h.seats frame f (Some new) None other) ∙ e in
        let was = can.heap.roots f s root there home in
        elim (cases_eq root.frame frame) [
          | inl here ↦ can.keeps root f s here was other there home
          | inr elsewhere ↦ root_elsewhere h frame (Some new) root elsewhere was
        ]
  ];
  some_open = can.heap.some_open;
  within_depth = can.heap.within_depth;
}

-- a root's page is for its isolate
pub root_home : (h : HeapState) (root : Place) (seat : Seat) → IsRoot h root → seat_at h root.frame ≡ Some seat → seat.home ≡ Kept root
root_home h root seat is there = ap (λ (s : Seat). s.home) (same_some _ _ _ there is.there) ∙ is.home_is

pub open_kept : (depth : ℕ) (root : Place) → Open depth ≡ Kept root → ⊥
open_kept depth root e = cc

pub spare_kept : (root : Place) → Spare ≡ Kept root → ⊥
spare_kept root e = cc

positive : (n : ℕ) → n ≢ 0 → 0 < n
positive zero h = absurd (h refl)
positive (suc n) h = omega arith

-- ---- a body is put into a page

count_more : (page : PageState Body) (slot : ℕ) (body : Body) → IsPage page → slot < 64 → 0 < live_count (with_body page slot body)
count_more page slot body ok within =
    some_live (with_body page slot body) slot body (get_or-set_same page.bodies slot (Some body) None (omega (arith, ok.bodies, within)))

serving_kept : (region : ℕ) (home : Home) (root : Place) → serves region home ≡ true → home ≡ Kept root → ⊥
serving_kept region home root serving e = let clash : false ≡ true = ap (serves region) (sym e) ∙ serving in cc

pub can_put : (h : HeapState) (frame slot : ℕ) (seat : Seat) (body : Body) → IsHeap h → seat_at h frame ≡ Some seat → serves (innermost h) seat.home ≡ true → IsFree seat.page slot →
    CanSeat h frame (record { page = with_body seat.page slot body; home = Open (innermost h) })
can_put h frame slot seat body ok there serving free =
    let was = ok.seats_ok frame seat there in
    record {
      heap = ok;
      within = got_lt h.seats frame seat there;
      seat = record {
        of = was.of;
        page = page_with_body seat.page slot body was.page free.serves;
        fits = (omega (arith, ok.some_open), count_more seat.page slot body was.page free.within);
      };
      rooted = λ root e. absurd (open_kept (innermost h) root e);
      keeps = λ root f s here is _ _ _. absurd (serving_kept (innermost h) seat.home root serving (root_home h root seat is (ap (seat_at h) here ∙ there)));
    }

pub heap_put : (old new : HeapState) (body : Body) (place : Place) → IsHeap old → IsPut old new body place → IsHeap new
heap_put old new body place ok put =
    let puts = put.puts in
    subst IsHeap (sym (put.now ∙ ap (with_seat old place.frame) puts.now)) (heap_with_seat old place.frame _ (can_put old place.frame place.slot puts.seat body ok puts.was puts.serving puts.free))

-- ---- an object ends

-- an object in another place of the page
other_at : (page : PageState Body) (slot generation other_slot other_generation : ℕ) (body other : Body) → body_at page slot generation ≡ Some body → body_at page other_slot other_generation ≡ Some other → ((other_slot ≡ slot) × (other_generation ≡ generation) → ⊥) →
    body_at (after_death page slot) other_slot other_generation ≡ Some other
other_at page slot generation other_slot other_generation body other at at_other apart =
    let slots : other_slot ≢ slot = λ e. apart (e, sym (at_generation page other_slot other_generation other at_other) ∙ ap (generation_at page) e ∙ at_generation page slot generation body at) in
    ap (λ g. cond (nat_eq g other_generation) (body_of (after_death page slot) other_slot) None) (after_generation_other page slot other_slot slots)
    ∙ ap (λ o. cond (nat_eq (generation_at page other_slot) other_generation) o None) (after_body page slot other_slot ∙ get_or-set_other page.bodies slot other_slot None None slots)
    ∙ at_other

-- a page that has an object left is for what it was for
home_stays : (page : PageState Body) (home : Home) (slot : ℕ) (body : Body) → body_of page slot ≡ Some body → home_after page home ≡ home
home_stays page home slot body there = by_test (nat_eq (live_count page) 0) refl
  where
    by_test : (b : Bool) → nat_eq (live_count page) 0 ≡ b → cond b Spare home ≡ home
    by_test true e = absurd (let some = some_live page slot body there in let none = eqb-true _ _ e in omega (arith, some, none))
    by_test false e = refl

home_was : (page : PageState Body) (home : Home) (root : Place) → home_after page home ≡ Kept root → home ≡ Kept root
home_was page home root e = by_test (nat_eq (live_count page) 0) e
  where
    by_test : (b : Bool) → cond b Spare home ≡ Kept root → home ≡ Kept root
    by_test true e = absurd (spare_kept root e)
    by_test false e = e

ended_fits : (regions : ℕ) (page : PageState Body) (slot : ℕ) (body : Body) (home : Home) → FitsHome regions (live_count page) home → body_of page slot ≡ Some body → FitsHome regions (live_count (after_death page slot)) (home_after (after_death page slot) home)
ended_fits regions page slot body home fits there = by_test (live_count (after_death page slot)) (nat_eq (live_count (after_death page slot)) 0) refl
  where
    by_home : (live : ℕ) (home : Home) → FitsHome regions (live_count page) home → 0 < live → FitsHome regions live home
    by_home live Spare fits some = absurd (let clash : None ≡ Some body = sym (no_body page slot fits) ∙ there in cc)
    by_home live (Open depth) fits some = (fits.0, some)
    by_home live (Kept root) fits some = some

    by_test : (live : ℕ) (b : Bool) → nat_eq live 0 ≡ b → FitsHome regions live (cond b Spare home)
    by_test live true e = eqb-true live 0 e
    by_test live false e = by_home live home fits (positive live (eqb-false live 0 e))

abbrev pub left_seat : Seat → ℕ → Seat
left_seat seat slot = record { page = after_death seat.page slot; home = home_after (after_death seat.page slot) seat.home }

pub can_end : (h : HeapState) (place : Place) (seat : Seat) (body : Body) → IsHeap h → place.slot < 64 → (IsRoot h place → ⊥) → seat_at h place.frame ≡ Some seat → body_at seat.page place.slot place.generation ≡ Some body →
    CanSeat h place.frame (left_seat seat place.slot)
can_end h place seat body ok within no_root there at =
    let was = ok.seats_ok place.frame seat there in
    let body_there = at_body seat.page place.slot place.generation body at in
    record {
      heap = ok;
      within = got_lt h.seats place.frame seat there;
      seat = record {
        of = after_frame seat.page place.slot ∙ was.of;
        page = page_after_death seat.page place.slot body was.page within body_there;
        fits = ended_fits h.regions seat.page place.slot body seat.home was.fits body_there;
      };
      rooted = λ root e.
          let root_is = ok.roots place.frame seat root there (home_was (after_death seat.page place.slot) seat.home root e) in
          elim (cases_eq root.frame place.frame) [
            | inl here ↦ stays root here root_is
            | inr elsewhere ↦ root_elsewhere h place.frame _ root elsewhere root_is
          ];
      keeps = λ root f s here is _ _ _. stays root here is;
    }
  where
    stays : (root : Place) → root.frame ≡ place.frame → IsRoot h root → IsRoot (with_seat h place.frame (Some (left_seat seat place.slot))) root
    stays root here is =
        let same : is.seat ≡ seat = same_some _ _ _ is.there (ap (seat_at h) here ∙ there) in
        let was_at : body_at seat.page root.slot root.generation ≡ Some is.body = ap (λ (s : Seat). body_at s.page root.slot root.generation) (sym same) ∙ is.at in
        let apart : (root.slot ≡ place.slot) × (root.generation ≡ place.generation) → ⊥ = λ e.
        no_root (subst (IsRoot h) (same_place root place.frame place.slot place.generation here e.0 e.1) is) in
        let now_at = other_at seat.page place.slot place.generation root.slot root.generation body is.body at was_at apart in
        record {
          seat = left_seat seat place.slot;
          there = ap (λ f. seat_at (with_seat h place.frame (Some (left_seat seat place.slot))) f) here ∙ get_or-set_same h.seats place.frame (Some (left_seat seat place.slot)) None (got_lt h.seats place.frame seat there);
          home_is = home_stays (after_death seat.page place.slot) seat.home root.slot is.body (at_body (after_death seat.page place.slot) root.slot root.generation is.body now_at) ∙ ap (λ (s : Seat). s.home) (sym same) ∙ is.home_is;
          body = is.body;
          at = now_at;
        }

pub heap_ended : (old new : HeapState) (body : Body) (place : Place) → IsHeap old → place.slot < 64 → (IsRoot old place → ⊥) → IsEnded old new body place → IsHeap new
heap_ended old new body place ok within no_root ended =
    let ends = ended.ends in
    subst IsHeap (sym (ended.now ∙ ap (with_seat old place.frame) ends.now)) (heap_with_seat old place.frame _ (can_end old place ends.seat body ok within no_root ends.was ends.at))

-- ---- an empty page comes

pub can_spare : (h : HeapState) (frame base : ℕ) (page : PageState Body) → IsHeap h → frame < length h.seats → seat_at h frame ≡ None → IsBlankAt page frame base → CanSeat h frame (record { page = page; home = Spare })
can_spare h frame base page ok within none blank = record {
  heap = ok;
  within = within;
  seat = record { of = blank.frame_is; page = blank.page; fits = blank.blank.no_live };
  rooted = λ root e. absurd (spare_kept root e);
  keeps = λ root f s here is _ _ _. absurd (let clash : None ≡ Some is.seat = sym none ∙ ap (seat_at h) (sym here) ∙ is.there in cc);
}

pub heap_spare : (h : HeapState) (frame base : ℕ) (page : PageState Body) → IsHeap h → frame < length h.seats → seat_at h frame ≡ None → IsBlankAt page frame base → IsHeap (with_spare h frame page)
heap_spare h frame base page ok within none blank = heap_with_seat h frame _ (can_spare h frame base page ok within none blank)

-- ---- another body in a slot that has one

pub written_live : (page : PageState Body) (slot : ℕ) (body w : Body) → IsPage page → slot < 64 → body_of page slot ≡ Some body → live_count page ≡ live_count (with_body page slot w)
written_live page slot body w ok within there =
    let counted = sum_by-set (λ o. cond (is_some o) 1 0) page.bodies slot (Some w) None (omega (arith, ok.bodies, within)) in
    let one : ◌≡◌ {A = ℕ} (cond (is_some (get_or page.bodies slot None)) 1 0) 1 = ap (λ o. cond (is_some o) 1 0) there in
    omega (arith, counted, one)

pub can_write : (h : HeapState) (frame slot : ℕ) (seat : Seat) (body w : Body) → IsHeap h → slot < 64 → seat_at h frame ≡ Some seat → body_of seat.page slot ≡ Some body → CanSeat h frame (with_written seat slot w)
can_write h frame slot seat body w ok within there body_there =
    let was = ok.seats_ok frame seat there in
    record {
      heap = ok;
      within = got_lt h.seats frame seat there;
      seat = record {
        of = was.of;
        page = page_with_body seat.page slot w was.page (not_retired seat.page was.page slot body within body_there);
        fits = subst (λ n. FitsHome h.regions n seat.home) (written_live seat.page slot body w was.page within body_there) was.fits;
      };
      rooted = λ root e.
          let root_is = ok.roots frame seat root there e in
          elim (cases_eq root.frame frame) [
            | inl here ↦ stays root here root_is
            | inr elsewhere ↦ root_elsewhere h frame _ root elsewhere root_is
          ];
      keeps = λ root f s here is _ _ _. stays root here is;
    }
  where
    page_ok : IsPage seat.page
    page_ok = (ok.seats_ok frame seat there).page

    still : (other generation : ℕ) (was : Body) → body_at seat.page other generation ≡ Some was → (now : Body) × (body_at (with_body seat.page slot w) other generation ≡ Some now)
    still other generation was at = elim (cases_eq other slot) [
      | inl same ↦ (
        w,
        ap (λ b. cond b (get_or (set seat.page.bodies slot (Some w)) other None) None) (eq-eqb _ _ (at_generation seat.page other generation was at))
            ∙ ap (λ n. get_or (set seat.page.bodies slot (Some w)) n None) same ∙ get_or-set_same seat.page.bodies slot (Some w) None (omega (arith, page_ok.bodies, within)),
      )
      | inr apart ↦ (was, ap (λ o. cond (nat_eq (generation_at seat.page other) generation) o None) (get_or-set_other seat.page.bodies slot other (Some w) None apart) ∙ at)
    ]

    stays : (root : Place) → root.frame ≡ frame → IsRoot h root → IsRoot (with_seat h frame (Some (with_written seat slot w))) root
    stays root here is =
        let same : is.seat ≡ seat = same_some _ _ _ is.there (ap (seat_at h) here ∙ there) in
        let now = still root.slot root.generation is.body (ap (λ (s : Seat). body_at s.page root.slot root.generation) (sym same) ∙ is.at) in
        record {
          seat = with_written seat slot w;
          there = ap (λ f. seat_at (with_seat h frame (Some (with_written seat slot w))) f) here ∙ get_or-set_same h.seats frame (Some (with_written seat slot w)) None (got_lt h.seats frame seat there);
          home_is = ap (λ (s : Seat). s.home) (sym same) ∙ is.home_is;
          body = now.0;
          at = now.1;
        }

-- ---- a page is for something else now

pub root_of_kept : (h : HeapState) (root other : Place) (seat : Seat) → IsRoot h root → seat_at h root.frame ≡ Some seat → seat.home ≡ Kept other → root ≡ other
root_of_kept h root other seat is there home = let e : Kept root ≡ Kept other = sym (root_home h root seat is there) ∙ home in cc

-- a page of an open region joins another region, or an isolate whose root is elsewhere
pub can_leave : (h : HeapState) (frame region : ℕ) (seat : Seat) (to : Home) → IsHeap h → seat_at h frame ≡ Some seat → seat.home ≡ Open region → FitsHome h.regions (live_count seat.page) to →
    ((root : Place) → to ≡ Kept root → IsRoot (with_seat h frame (Some (with_home to seat))) root) → CanSeat h frame (with_home to seat)
can_leave h frame region seat to ok there home fits rooted =
    let was = ok.seats_ok frame seat there in
    record {
      heap = ok;
      within = got_lt h.seats frame seat there;
      seat = record { of = was.of; page = was.page; fits = fits };
      rooted = rooted;
      keeps = λ root f s here is _ _ _. absurd (open_kept region root (sym home ∙ root_home h root seat is (ap (seat_at h) here ∙ there)));
    }

-- a page of an isolate joins an open region: not the root's page, or the last one
pub can_join : (h : HeapState) (frame region : ℕ) (seat : Seat) (iso : Place) → IsHeap h → seat_at h frame ≡ Some seat → seat.home ≡ Kept iso → region < h.regions →
    ((f : ℕ) (s : Seat) → iso.frame ≡ frame → f ≢ frame → seat_at h f ≡ Some s → s.home ≡ Kept iso → ⊥) → CanSeat h frame (with_home (Open region) seat)
can_join h frame region seat iso ok there home fits alone =
    let was = ok.seats_ok frame seat there in
    record {
      heap = ok;
      within = got_lt h.seats frame seat there;
      seat = record { of = was.of; page = was.page; fits = (fits, subst (λ x. FitsHome h.regions (live_count seat.page) x) home was.fits) };
      rooted = λ root e. absurd (open_kept region root e);
      keeps = λ root f s here is apart at kept.
          let one : root ≡ iso = root_of_kept h root iso seat is (ap (seat_at h) here ∙ there) home in
          absurd (alone f s (ap (λ (p : Place). p.frame) (sym one) ∙ here) apart at (kept ∙ ap Kept one));
    }
